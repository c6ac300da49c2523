-- Demand 3 and request 7/12 of document 02, as one result: where the second of two tables is no easier than the first, a task of the first that has a bound in the second has one in the first, no
-- larger. A bound is demand 2's, where no allowance of rounds enters; under the allowance of `report` it holds of what is printed, and under a small one it does not (`printed` and `overtakes`
-- of `Rounds`).
use Rattle.std.specs.Prelude.{ℕ, ◌-◌, ◌≤◌, ◌<◌, ◌≡◌, Ok}
use Rattle.table.specs.declared.Level.{Level}
use Rattle.table.specs.declared.Resource.{Resource}
use Rattle.table.specs.declared.Table.{Table}
use Rattle.table.specs.Limits.{max_resources}
use Rattle.table.specs.Rules.{table_fault}
use Rattle.theory.specs.View.{View, level, resource, uses}
use Rattle.theory.specs.Demand.{all_CT}
use Rattle.theory.specs.Bound.{Least}
use Rattle.theory.specs.Tables.{merged_view}
use Rattle.promises.specs.Demand2.{demand_in, deadline_in}

-- ---- the relation

-- of each task of a table, and of each of its tasks and each resource
abbrev pub EachTask : View → (Level → Type 0) → Type 0
EachTask v p = (l : ℕ) → l < v.n → p (level l)

abbrev pub EachPair : View → (Level → Resource → Type 0) → Type 0
EachPair v p = (l k : ℕ) → l < v.n → k < max_resources → p (level l) (resource k)

-- Two tables as the analysis reads them, v the first and w the second, figure by figure; each comparison has on its left the figure that may be the smaller. `Rest` is of what demand 3 lets
-- change, `Run` of the run and lock times, which request 7/12 lets change, and `Free` of what a task runs outside its locks.
pub record Compared (Rest Run Free : ℕ → ℕ → Type 0) (v w : View) : Type 0 where
  -- processors; tasks, of which more may stand at the bottom. What follows is of the tasks of the first
  pub cpus : Rest w.cpus v.cpus
  pub n : Rest v.n w.n
  -- periods, request counts, longest single requests
  pub T : EachTask v (λ l. Rest (w.T l) (v.T l))
  pub N : EachPair v (λ l k. Rest (v.N l k) (w.N l k))
  pub c : EachPair v (λ l k. Rest (v.c l k) (w.c l k))
  -- C, CT, and "C less all its CT"
  pub C : EachTask v (λ l. Run (v.C l) (w.C l))
  pub CT : EachPair v (λ l k. Run (v.CT l k) (w.CT l k))
  pub free : EachTask v (λ l. Free (v.C l - all_CT v l) (w.C l - all_CT w l))
  -- deadlines and pairs in use: always the same
  pub D : EachTask v (λ l. w.D l ≡ v.D l)
  pub pairs : EachPair v (λ l k. uses w l k ≡ uses v l k)

-- nothing is asked
abbrev pub Any : ℕ → ℕ → Type 0
Any x y = Unit

-- w is no easier than v: no more processors, no period longer, no count and no longest request smaller, perhaps more tasks at the bottom; no C, no CT and no C less all CT smaller; the same deadlines and
-- pairs in use. All of it may change at once
abbrev pub NoEasier : View → View → Type 0
NoEasier = Compared ◌≤◌ ◌≤◌ ◌≤◌

-- ---- the one theorem, and the two readings of it

-- two accepted tables, and how the second is related to the first
pub record Related (R : View → View → Type 0) (a b : Table) : Type 0 where
  pub first : table_fault a ≡ Ok tt
  pub second : table_fault b ≡ Ok tt
  pub related : R (merged_view a) (merged_view b)

-- of tables so related, "for each task of the first: if the second gives it a bound, the first gives it one too, and no larger"
abbrev pub KeepsBounds : (View → View → Type 0) → Type 0
KeepsBounds R =
    (a b : Table) → Related R a b → (i : ℕ) → i < a.n → (u : ℕ) → Least (demand_in b i) (deadline_in b i) u
    → (w : ℕ) × Least (demand_in a i) (deadline_in a i) w × (w ≤ u)

-- demand 3, w is v made harder: "no more processors, no period longer, no request count or longest single request smaller, perhaps more tasks at the bottom; all run times, deadlines, total
-- lock times and task-lock pairs in use of the first unchanged"
abbrev pub Harder : View → View → Type 0
Harder = Compared ◌≤◌ ◌≡◌ Any

-- request 7/12, w is v with longer run times: "the same processors, periods, deadlines, counts, longest requests and pairs in use. In the second, no C, no CT, and no task's C less all its CT, is
-- smaller"
abbrev pub Longer : View → View → Type 0
Longer = Compared ◌≡◌ ◌≤◌ ◌≤◌

-- request 7/12 without its last condition
abbrev pub LongerButFree : View → View → Type 0
LongerButFree = Compared ◌≡◌ ◌≤◌ Any

pub record OneResult : Type 0 where
  pub one : KeepsBounds NoEasier
  -- both are special cases of it,
  pub harder_is : (v w : View) → Harder v w → NoEasier v w
  pub longer_is : (v w : View) → Longer v w → NoEasier v w
  -- and are read off it
  pub demand3 : KeepsBounds Harder
  pub request7 : KeepsBounds Longer
  -- why C less all CT is named: a longer lock time inside the same C can help another task (`falls` of `NotEmpty` has the tables), so that without it this is false
  pub named : KeepsBounds LongerButFree → ⊥
