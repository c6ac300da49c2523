-- What a table has besides the run time of one task is all that the tasks above it read.
-- Assumes nothing.
use Prim.Native.Nat.{ℕ, ◌-◌, ◌<◌}
use mathlib.Core.Path.{◌≡◌, sym, ap, ap₂}
use mathlib.Core.Bool.{Bool, not}
use native.Mathlib.Nat.{le_of_eq, le_antisymm}
use native.Mathlib.Omega.{arith}
use lib.Dec.{ltb}
use Rattle.basics.specs.Choice.{only}
use Rattle.basics.proofs.SumLaws.{sum_eq}
use Rattle.basics.proofs.MaxLaws.{max_wider}
use Rattle.basics.proofs.FirstIndexLaws.{first_eq}
use Rattle.table.specs.declared.Level.{Level}
use Rattle.table.specs.declared.Resource.{Resource}
use Rattle.table.specs.Limits.{max_resources}
use Rattle.theory.specs.View.{View, level, resource, is_above, over_resources, largest_below, uses, ceiling}
use Rattle.theory.specs.Demand.{shared_CT, other_CT, all_CT, high_CT}
use Rattle.promises.specs.Reads.{processors, tasks, run, deadline, requests, period_above, deadline_above, shared, other, free, period_below, deadline_below, high, longest, AgreeOn, SameRead, OnlyRun}
use Rattle.promises.proofs.ReachedLaws.{NotReached, run_eq}

module _ (j : Level) (v w : View) (o : OnlyRun j v w) (i : ℕ) (hi : i < v.n) (above : NotReached (level i) j) where
  uses_eq : (l k : ℕ) → l < v.n → k < max_resources → uses w (level l) (resource k) ≡ uses v (level l) (resource k)
  uses_eq l k h r = ap (ltb 0) (o.N l k h r tt)

  ceiling_eq : (k : ℕ) → k < max_resources → ceiling w (resource k) ≡ ceiling v (resource k)
  unfolding ceiling
  ceiling_eq k r = rw o.n (ap level (first_eq v.n _ _ (λ l h. uses_eq l k h r)))

  -- the CT of some of a task's resources
  locks_eq : (p q : Resource → Bool) → ((k : ℕ) → k < max_resources → q (resource k) ≡ p (resource k)) → (l : ℕ) → l < v.n
      → over_resources (λ k. only (q k) (w.CT (level l) k)) ≡ over_resources (λ k. only (p k) (v.CT (level l) k))
  locks_eq p q e l h = sum_eq max_resources _ _ (λ k r. ap₂ only (e k r) (o.CT l k h r tt))

  longest_eq : (k : ℕ) → k < max_resources → largest_below w (level i) (λ l. w.c l (resource k)) ≡ largest_below v (level i) (λ l. v.c l (resource k))
  longest_eq k r =
      let each : (l : ℕ) → l < v.n → only (is_above (level i) (level l)) (w.c (level l) (resource k)) ≡ only (is_above (level i) (level l)) (v.c (level l) (resource k)) =
      λ l h. ap (only (is_above (level i) (level l))) (o.c l k h r tt) in
      le_antisymm
      (max_wider w.n v.n _ _ (le_of_eq o.n) (λ l h. le_of_eq (each l (omega (arith, o.n)))))
      (max_wider v.n w.n _ _ (le_of_eq (sym o.n)) (λ l h. le_of_eq (sym (each l h))))

  pub same_above : SameRead v w (level i)
  unfolding AgreeOn shared_CT other_CT all_CT high_CT
  same_above processors = o.cpus
  same_above tasks = o.n
  same_above run = run_eq j v w o i hi above
  same_above deadline = o.D i hi tt
  same_above requests = λ k r. o.N i k hi r tt
  same_above period_above = λ l h a read. o.T l h tt
  same_above deadline_above = λ l h a read. o.D l h tt
  same_above shared = λ l h a. locks_eq (uses v (level i)) (uses w (level i)) (λ k r. uses_eq i k hi r) l h
  same_above other = λ m l h a. locks_eq (λ k. not (uses v (level i) k)) (λ k. not (uses w (level i) k)) (λ k r. ap not (uses_eq i k hi r)) l h
  same_above free = λ m l h a. ap₂ ◌-◌ (run_eq j v w o l h (omega arith)) (sum_eq max_resources _ _ (λ k r. o.CT l k h r tt))
  same_above period_below = λ l h a read. o.T l h tt
  same_above deadline_below = λ l h a read. o.D l h tt
  same_above high = λ m l h a.
      locks_eq (λ k. is_above (ceiling v k) (level i)) (λ k. is_above (ceiling w k) (level i)) (λ k r. ap (λ x. is_above x (level i)) (ceiling_eq k r)) l h
  same_above longest = λ k r u. longest_eq k r
