-- The rounds of a task of a table in bounds, as the merged pairs of an accepted one are: they come to an end and to the right verdict; and the answer of `bound` from them.
-- Assumes nothing.
use Prim.Native.Nat.{ℕ, suc, ◌+◌, ◌-◌, ◌≤◌, ◌<◌}
use mathlib.Core.Path.{◌≡◌, refl, sym, ap, ◌∙◌}
use native.Mathlib.Omega.{arith}
use borrow.Author.Tests.{le-leb}
use Rattle.basics.proofs.ChoiceLaws.{within_in}
use Rattle.table.specs.declared.Table.{Table}
use Rattle.table.specs.Faults.{Checked}
use Rattle.std.specs.Prelude.{Ok, Err}
use Rattle.table.specs.Rules.{table_fault}
use Rattle.theory.specs.declared.Verdict.{Verdict}
use Rattle.theory.specs.declared.Verdict.TheVariants.{Open}
use Rattle.theory.specs.declared.Counted.{Counted}
use Rattle.theory.specs.View.{level}
use Rattle.theory.specs.Demand.{Load, demand_with}
use Rattle.theory.specs.Rounds.{counted_from, Counts}
use Rattle.theory.specs.Groups.{InBounds}
use Rattle.theory.specs.Tables.{view_of, counted_by, counted_in}
use Rattle.theory.proofs.LeastLaws.{Rises}
use Rattle.theory.proofs.AllowanceLaws.{stays}
use Rattle.theory.proofs.EndLaws.{counts_exists, Right, counted_right}
use Rattle.theory.proofs.DemandLaws.{Runs, NoMore, demand_start, demand_rises}
use Rattle.analysis.specs.Answers.{bound_fault, or_answer, bound_of}
use Rattle.analysis.proofs.RowLaws.{asked}

-- it has a processor, and no period of 0
pub bounds_runs : (t : Table) → InBounds t → Runs (view_of t)
bounds_runs t a = record { cpus = a.cpus_least; T = λ l h. let g = (a.task l h).times in omega arith }

-- by any workload that rises
module _ (W : Load) (rising : NoMore W W) (t : Table) (i : ℕ) (a : InBounds t) (h : i < t.n) where
  abbrev f : ℕ → ℕ
  f = demand_with W (view_of t) (level i)

  up : Rises f
  up = demand_rises W rising (view_of t) (bounds_runs t a) (level i)

  pub rounds_end : (n : ℕ) × Counts f ((view_of t).D (level i)) ((view_of t).C (level i)) n × (n ≤ (view_of t).D (level i) - (view_of t).C (level i) + 1)
  rounds_end =
      let g = (a.task i h).times in
      counts_exists f _ up ((view_of t).C (level i)) (omega arith) (demand_start W (view_of t) (level i) _)

  pub rounds_right : (allowance : ℕ) → Right f ((view_of t).D (level i)) (counted_from f ((view_of t).D (level i)) allowance ((view_of t).C (level i))).verdict
  rounds_right allowance =
      let g = (a.task i h).times in
      counted_right f _ up allowance _ (omega arith) (omega arith) (demand_start W (view_of t) (level i))

  -- the bound, or the miss, by computing k rounds
  pub by_rounds : (k : ℕ) {v : Verdict} → counted_from f ((view_of t).D (level i)) k ((view_of t).C (level i)) ≡ record { verdict = v; rounds = k }
      → Right f ((view_of t).D (level i)) v
  by_rounds k c = rw c at (rounds_right k)

-- a verdict that is not open, from a small allowance to a larger one
pub under_more : (t : Table) (i A B : ℕ) {r : Counted} → A ≤ B → counted_in t A (level i) ≡ r → (r.verdict ≡ Open → ⊥) → counted_in t B (level i) ≡ r
unfolding counted_by
under_more t i A B h e q = stays _ _ A B _ h (λ o. q (ap (λ (r : Counted). r.verdict) (sym e) ∙ o)) ∙ e

-- `bound` answers the verdict on each task that there is, and its rounds
pub bound_known : (t : Table) (i allowance : ℕ) → table_fault t ≡ Ok tt → i < t.n → 1 ≤ allowance
    → bound_of t (level i) allowance ≡ Ok (counted_in t allowance (level i))
unfolding bound_of bound_fault
bound_known t i allowance e h a = rw (e, within_in 1 t.n (suc i) (omega arith) h, le-leb 1 allowance a)

-- and where it answers them, the table is fine and has that task, and a round is allowed
pub known : (t : Table) (i allowance : ℕ) {r : Counted} → bound_of t (level i) allowance ≡ Ok r
    → (table_fault t ≡ Ok tt) × (i < t.n) × (1 ≤ allowance) × (counted_in t allowance (level i) ≡ r)
unfolding bound_of
known t i allowance {r} e = by (bound_fault t (level i) allowance) refl
  where
    by : (c : Checked) → bound_fault t (level i) allowance ≡ c → (table_fault t ≡ Ok tt) × (i < t.n) × (1 ≤ allowance) × (counted_in t allowance (level i) ≡ r)
    by (Ok _) f = let a = asked t (level i) allowance f in let x : Ok (counted_in t allowance (level i)) ≡ Ok r = rw f at e in (a.0, a.2, a.3, cc)
    by (Err s) f = let x : or_answer (Err s) (Ok (counted_in t allowance (level i))) ≡ Ok r = rw f at e in let z : ◌≡◌ {A = ℕ} 0 1 = cc in absurd (omega arith)
