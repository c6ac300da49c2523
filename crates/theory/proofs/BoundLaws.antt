-- A task keeps its bound where its demand is nowhere larger: between two tables, and by the smaller of two workloads (request 3/12).
-- Assumes nothing.
use Prim.Native.Nat.{ℕ, ◌≤◌}
use mathlib.Core.Path.{◌≡◌, refl}
use native.Mathlib.Nat.{le_refl, le_trans}
use Rattle.table.specs.declared.Level.{Level}
use Rattle.theory.specs.Work.{uncapped, workload}
use Rattle.theory.specs.View.{View}
use Rattle.theory.specs.Demand.{Load, demand_with, demand_of}
use Rattle.theory.specs.Bound.{Least}
use Rattle.theory.proofs.WorkLaws.{uncapped_rises, workload_less}
use Rattle.theory.proofs.LeastLaws.{keeps_bound}
use Rattle.theory.proofs.DemandLaws.{Runs, NoMore, TermsGrow, demand_le, terms_itself}

-- a task that has a bound in the second table, by the second workload, has one in the first by the first, no larger
pub terms_keep : (W W' : Load) (v w : View) (i : Level) → w.D i ≡ v.D i → ((t : ℕ) → TermsGrow W W' v w i t t)
    → (t : ℕ) → Least (demand_with W' w i) (w.D i) t → (u : ℕ) × Least (demand_with W v i) (v.D i) u × (u ≤ t)
terms_keep W W' v w i e g t l = keeps_bound (demand_with W v i) (demand_with W' w i) (v.D i) t (λ t. demand_le W W' v w i t t (g t)) (rw e at l)

workload_no_more : NoMore workload uncapped
workload_no_more T T' D t t' x pos hT ht = le_trans (workload_less T D t x) (uncapped_rises T T' D t t' x pos hT ht)

-- REQUEST 3/12: a task that has a bound by document 01's workload has one by the capped, no larger
pub capped_keeps : (v : View) → Runs v → (i : Level) (t : ℕ) → Least (demand_with uncapped v i) (v.D i) t
    → (u : ℕ) × Least (demand_of v i) (v.D i) u × (u ≤ t)
capped_keeps v runs i = terms_keep workload uncapped v v i refl (λ t. terms_itself workload uncapped workload_no_more v runs i t t (le_refl t))
