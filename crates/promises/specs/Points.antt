-- The paper's points marked P, every one, two of them as request 3/12 has them, and the reports with request 6/12's rounds and request 8/12's column: one list, one statement over it.
use Rattle.std.specs.Prelude.{ℕ, ◌≡◌, Option, List, [], ◌∷◌, length}
use Prim.Native.String.{String}
use Rattle.basics.specs.Text.{bytes}
use Rattle.field.specs.declared.Field.{Field}
use Rattle.field.specs.declared.Rounding.TheVariants.{Down, Up}
use Rattle.field.specs.Number.{time_field, reads_as}
use Rattle.theory.specs.Work.{workload}
use Rattle.page.specs.Report.{report_prints, bench_prints}

pub data Point : Type 0 where
  -- a listing, and what `report` and `bench` print on it
  reports : String → String → Point
  benches : String → String → Point
  -- T, D, t, x, and the workload
  loads : ℕ → ℕ → ℕ → ℕ → ℕ → Point
  -- a field, and the microseconds that it reads as, whichever way it is rounded
  reads : String → ℕ → Point

unfoldable pub Holds : Point → Type 0
Holds (reports listing text) = report_prints (bytes listing) ≡ bytes text
Holds (benches listing text) = bench_prints (bytes listing) ≡ bytes text
Holds (loads T D t x w) = workload T D t x ≡ w
Holds (reads text us) =
    let value = reads_as us (length (bytes text)) in
    ◌≡◌ {A = Option Field × Option Field} (time_field Down (bytes text), time_field Up (bytes text)) (value, value)

infixr 10 ◌and◌
pub data All : List Point → Type 0 where
  none : All []
  ◌and◌ : {p : Point} {ps : List Point} → Holds p → All ps → All (p ∷ ps)

unfoldable pub points : List Point
points =
    -- case A's three bounds, and their rounds: "case A gives 2, 1 and 6"
    reports
    "cpus 2\ntask 10 2.5 10\nuse 1 1 0.5 0.5\ntask 20 4 15\ntask 30 6 30\nuse 1 2 0.75 1.5\n"
    "task verdict bound_us rounds wait_us\n1 meets 3250 2 -\n2 meets 4000 1 -\n3 meets 14500 6 -\n"
    -- with task 3's D 14.5 it meets at 14,500
    ∷ reports
    "cpus 2\ntask 10 2.5 10\nuse 1 1 0.5 0.5\ntask 20 4 15\ntask 30 6 14.5\nuse 1 2 0.75 1.5\n"
    "task verdict bound_us rounds wait_us\n1 meets 3250 2 -\n2 meets 4000 1 -\n3 meets 14500 6 -\n"
    -- with 14.499 it misses
    ∷ reports
    "cpus 2\ntask 10 2.5 10\nuse 1 1 0.5 0.5\ntask 20 4 15\ntask 30 6 14.499\nuse 1 2 0.75 1.5\n"
    "task verdict bound_us rounds wait_us\n1 meets 3250 2 -\n2 meets 4000 1 -\n3 misses - 5 -\n"
    -- request 6/12: `bench` allows five rounds, and task 3 of case A takes six
    ∷ benches
    "cpus 2\ntask 10 2.5 10\nuse 1 1 0.5 0.5\ntask 20 4 15\ntask 30 6 30\nuse 1 2 0.75 1.5\n"
    "task verdict bound_us rounds\n1 meets 3250 2\n2 meets 4000 1\n3 open - 5\n"
    -- request 8/12: "With A 2, N 2, one resource in use and lower values 300, 700 and 400, that is 2,200"
    ∷ reports
    "cpus 2\ntask 10 2 10\nalpha 2\nuse 1 2 0.05 0.1\ntask 20 4 20\nalpha 2\nuse 2 1 0.3 0.3\nuse 3 1 0.7 0.7\ntask 30 6 30\nalpha 2\nuse 2 1 0.4 0.4\n"
    "task verdict bound_us rounds wait_us\n1 meets 2000 1 2200\n2 meets 4400 2 400\n3 meets 12800 11 0\n"
    -- request 9/12: locks 2 and 3 are taken together, as group 2: the bounds are those of one lock, and task 1 waits twice 700 and 400, where it is 700 and 600 without the group
    ∷ reports
    "cpus 2\ngroup 2 2\ngroup 2 3\ntask 10 2 10\nalpha 2\nuse 1 2 0.05 0.1\ntask 20 4 20\nalpha 2\nuse 2 1 0.6 0.6\nuse 3 1 0.7 0.7\ntask 30 6 30\nalpha 2\nuse 2 1 0.4 0.4\n"
    "task verdict bound_us rounds wait_us\n1 meets 2000 1 2200\n2 meets 4800 2 0\n3 meets 14300 4 0\n"
    -- T 10, D 8, x 3: workload 0 at t 0, 3 at 4, 3 at 5, 5 at 7, 6 at 8
    ∷ loads 10 8 0 3 0
    ∷ loads 10 8 4 3 3
    ∷ loads 10 8 5 3 3
    ∷ loads 10 8 7 3 5
    ∷ loads 10 8 8 3 6
    -- T and D 10, t 2: from request 3/12 on both x 8 and x 9 give 2, in place of 4 and 3
    ∷ loads 10 10 2 8 2
    ∷ loads 10 10 2 9 2
    -- the fields 2.5, 2.05 and 2.500
    ∷ reads "2.5" 2_500
    ∷ reads "2.05" 2_050
    ∷ reads "2.500" 2_500
    ∷ []
