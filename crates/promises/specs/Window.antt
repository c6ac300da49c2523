-- Request 3/12 of document 02: no workload is more than t in a window of t. Each by itself: S, O and F of one task together may be, and so may the sum over tasks.
-- What was read before it, document 01's workload, is `uncapped`.
use Rattle.std.specs.Prelude.{ℕ, ◌≤◌, ◌<◌, min, ◌≡◌, Ok}
use Prim.Native.String.{String}
use Rattle.basics.specs.Text.{bytes}
use Rattle.table.specs.declared.Table.{Table}
use Rattle.table.specs.Rules.{table_fault}
use Rattle.theory.specs.Work.{uncapped, workload}
use Rattle.theory.specs.View.{level}
use Rattle.theory.specs.Demand.{load_of, demand_with}
use Rattle.theory.specs.Bound.{Least, None}
use Rattle.theory.specs.Tables.{merged_view}
use Rattle.page.specs.Report.{report_prints}
use Rattle.promises.specs.Words.{read_table}
use Rattle.promises.specs.Demand2.{demand_in, run_in, deadline_in}

-- the demand of a task by document 01's workload
abbrev pub uncapped_demand_in : Table → ℕ → ℕ → ℕ
uncapped_demand_in t i = demand_with uncapped (merged_view t) (level i)

pub record Window : Type 0 where
  -- "One task cannot run more than t in a window of t."
  pub most : (T D t x : ℕ) → workload T D t x ≤ t
  -- "From now on the workload is the smaller of t and the old one." This holds by definition; so it is never above the old one
  pub smaller : (T D t x : ℕ) → workload T D t x ≡ min t (uncapped T D t x)
  pub less : (T D t x : ℕ) → workload T D t x ≤ uncapped T D t x
  -- it rises with t, and as T gets shorter
  pub rises : (T T' D t t' x : ℕ) → 0 < T' → T' ≤ T → t ≤ t' → workload T D t x ≤ workload T' D t' x
  -- the old one: "with T and D 10 and t 2, it falls from 4 to 3 as x goes from 8 to 9"
  pub fell : (uncapped 10 10 2 8 ≡ 4) × (uncapped 10 10 2 9 ≡ 3)
  -- the new one never falls as x grows up to D (that x 8 and x 9 now give 2 is in `Points`),
  pub grows : (T D t x x' : ℕ) → 0 < T → D ≤ T → x ≤ x' → x' ≤ D → workload T D t x ≤ workload T D t x'
  -- and so, of each task of an accepted table, "never falls as x grows up to C"
  pub grows_to_run : (t : Table) (i : ℕ) → table_fault t ≡ Ok tt → i < t.n → (s x x' : ℕ) → x ≤ x' → x' ≤ run_in t i
      → load_of workload (merged_view t) s (level i) x ≤ load_of workload (merged_view t) s (level i) x'
  -- "Demand 2 reads it from here on": this too holds by definition
  pub read : (t : Table) (i s : ℕ) → demand_in t i s ≡ demand_with workload (merged_view t) (level i) s
  -- "every task that had a bound keeps one, and no bound may become larger than before"
  pub keeps : (t : Table) (i : ℕ) → table_fault t ≡ Ok tt → i < t.n → (u : ℕ) → Least (uncapped_demand_in t i) (deadline_in t i) u
      → (w : ℕ) × Least (demand_in t i) (deadline_in t i) w × (w ≤ u)

-- ---- the developer's story, computed: examples/before-shortening.txt, and the same with the second task shortened from 6 ms to 5, examples/shortened.txt

abbrev pub before : String
before = "cpus 2\ntask 3 1 3\ntask 6 6 6\ntask 4 1 4\n"

abbrev pub shortened : String
shortened = "cpus 2\ntask 3 1 3\ntask 6 5 6\ntask 4 1 4\n"

-- and this with more time for the third task
abbrev pub relaxed : String
relaxed = "cpus 2\ntask 3 1 3\ntask 6 5 6\ntask 5 1 5\n"

-- the demand of the third task of a listing by document 01's workload, and its deadline
abbrev pub third_uncapped : String → ℕ → ℕ
third_uncapped s = uncapped_demand_in (read_table s) 2

abbrev pub third_deadline : String → ℕ
third_deadline s = deadline_in (read_table s) 2

pub record Story : Type 0 where
  -- "A developer shortened a task and another task's verdict went from meets to misses"
  pub met : Least (third_uncapped before) (third_deadline before) 4_000
  pub missed : None (third_uncapped shortened) (third_deadline shortened)
  -- now it meets in both
  pub meets : report_prints (bytes before) ≡ bytes "task verdict bound_us rounds wait_us\n1 meets 1000 1 -\n2 meets 6000 1 -\n3 meets 4000 13 -\n"
  pub still_meets : report_prints (bytes shortened) ≡ bytes "task verdict bound_us rounds wait_us\n1 meets 1000 1 -\n2 meets 5000 1 -\n3 meets 4000 13 -\n"
  -- and a bound that is smaller than before
  pub met_late : Least (third_uncapped relaxed) (third_deadline relaxed) 5_000
  pub meets_earlier : report_prints (bytes relaxed) ≡ bytes "task verdict bound_us rounds wait_us\n1 meets 1000 1 -\n2 meets 5000 1 -\n3 meets 4000 13 -\n"
