-- Where two tables agree on what the demand of a task has of them, it is the same at every length, and as many units of each task count in it.
-- Assumes nothing.
use Prim.Native.Nat.{ℕ, zero, suc, ◌+◌, ◌-◌, ◌≤◌, ◌<◌}
use mathlib.Core.Path.{◌≡◌, sym, ap₂, ◌∙◌}
use mathlib.Core.Bool.{Bool, true}
use native.Mathlib.Decide.{dec_le}
use native.Mathlib.Omega.{arith}
use borrow.Author.Tests.{le-leb}
use lib.Dec.{leb}
use Rattle.basics.specs.Choice.{pick, only}
use Rattle.basics.specs.Over.{sum_to, all_to}
use Rattle.basics.proofs.ChoiceLaws.{only_when}
use Rattle.basics.proofs.SumLaws.{sum_eq}
use Rattle.table.specs.declared.Level.{Level}
use Rattle.table.specs.Limits.{max_resources}
use Rattle.theory.specs.Work.{workload, ceil_div}
use Rattle.theory.specs.View.{View, level, resource, is_above, uses}
use Rattle.theory.specs.Demand.{shared_CT, other_CT, all_CT, high_CT, DB, load_of, S, O, F, L, demand_with, demand_of, units_divided, units_read}
use Rattle.theory.proofs.WorkLaws.{workload_none}
use Rattle.table.specs.Rules.{has_group}
use Rattle.theory.specs.Merge.{merged_tasks}
use Rattle.promises.specs.Reads.{Above, LongForm, Reads, higher, processors, tasks, run, requests, period_above, deadline_above, shared, other, free, period_below, deadline_below, high, longest, AgreeOn, SameRead}
use Rattle.promises.proofs.ReadsLaws.{Fitting, is_above_lem, shared_read, high_read}

module _ (v w : View) (fits : Fitting v) (i : Level) (same : SameRead v w i) (t : ℕ) where
  -- x units of a task in the first and y in the second: as many, and where there are some, with the same T and D
  load_eq : (l : Level) (x y : ℕ) → y ≡ x → (1 ≤ x → (w.T l ≡ v.T l) × (w.D l ≡ v.D l)) → load_of workload w t l y ≡ load_of workload v t l x
  load_eq l zero y e k = rw e (workload_none _ _ t ∙ sym (workload_none _ _ t))
  load_eq l (suc x) y e k = let f = k (omega arith) in rw (e, f.0, f.1)

  -- a sum over some of the tasks
  part_eq : (p : Level → Bool) (x y : Level → ℕ)
      → ((l : ℕ) → l < v.n → p (level l) ≡ true → load_of workload w t (level l) (y (level l)) ≡ load_of workload v t (level l) (x (level l)))
      → sum_to w.n (λ l. only (p (level l)) (load_of workload w t (level l) (y (level l))))
      ≡ sum_to v.n (λ l. only (p (level l)) (load_of workload v t (level l) (x (level l))))
  unfolding AgreeOn
  part_eq p x y e = rw (same tasks) (sum_eq v.n _ _ (λ l h. only_when (p (level l)) _ _ (e l h)))

  -- a sum over the tasks above i, of units of which each that counts is of a task that is read
  above_eq : (x y : Level → ℕ) → ((l : ℕ) → l < v.n → Above (level l) i → y (level l) ≡ x (level l)) → ((l : ℕ) → l < v.n → Above (level l) i → 1 ≤ x (level l) → Reads v i (level l))
      → sum_to w.n (λ l. only (is_above (level l) i) (load_of workload w t (level l) (y (level l))))
      ≡ sum_to v.n (λ l. only (is_above (level l) i) (load_of workload v t (level l) (x (level l))))
  unfolding AgreeOn
  above_eq x y e reads =
      part_eq (λ l. is_above l i) x y (λ l h b.
      let a = is_above_lem (level l) i b in
      load_eq (level l) _ _ (e l h a) (λ s. (same period_above l h a (reads l h a s), same deadline_above l h a (reads l h a s))))

  S_eq : S workload w i t ≡ S workload v i t
  unfolding S AgreeOn
  S_eq = above_eq (shared_CT v i) (shared_CT w i) (same shared) (λ l h a. shared_read v fits i l h a)

  DB_eq : DB w i ≡ DB v i
  unfolding DB AgreeOn
  DB_eq =
      sum_eq max_resources _ _
      (λ k r. rw (same requests k r) (only_when (uses v i (resource k)) _ _ (λ u. rw (same longest k r u))))

  module _ (m : LongForm v i) where
    O_eq : O workload w i t ≡ O workload v i t
    unfolding O AgreeOn
    O_eq = above_eq (other_CT v i) (other_CT w i) (same other m) (λ l h a s. higher m a)

    F_eq : F workload w i t ≡ F workload v i t
    unfolding F AgreeOn
    F_eq = above_eq (λ l. v.C l - all_CT v l) (λ l. w.C l - all_CT w l) (same free m) (λ l h a s. higher m a)

    L_eq : L workload w i t ≡ L workload v i t
    unfolding L AgreeOn
    L_eq =
        part_eq (is_above i) (high_CT v i) (high_CT w i) (λ l h b.
        let a = is_above_lem i (level l) b in
        let read = high_read v fits i l h m a in
        load_eq (level l) _ _ (same high m l h a) (λ s. (same period_below l h a (read s), same deadline_below l h a (read s))))

  -- the last term of (11)
  quotient_eq : Dec (i.0 ≤ v.cpus)
      → pick (leb i.0 w.cpus) 0 (ceil_div (O workload w i t + F workload w i t + L workload w i t) w.cpus)
      ≡ pick (leb i.0 v.cpus) 0 (ceil_div (O workload v i t + F workload v i t + L workload v i t) v.cpus)
  unfolding AgreeOn
  quotient_eq (yes h) = rw (same processors, le-leb i.0 v.cpus h)
  quotient_eq (no h) =
      let m : LongForm v i = omega arith in
      ap₂ (λ x y. pick (leb i.0 y) 0 (ceil_div x y)) (omega (arith, O_eq m, F_eq m, L_eq m)) (same processors)

  pub demand_same : demand_of w i t ≡ demand_of v i t
  unfolding demand_with AgreeOn merged_tasks has_group all_to
  demand_same = omega (arith, same run, DB_eq, S_eq, quotient_eq (dec_le i.0 v.cpus))

-- and as many units of each task count
module _ (v w : View) (i : Level) (same : SameRead v w i) (l : ℕ) (h : l < v.n) where
  long_eq : Dec (i.0 ≤ v.cpus) → pick (leb i.0 w.cpus) 0 (units_divided w i (level l)) ≡ pick (leb i.0 v.cpus) 0 (units_divided v i (level l))
  unfolding AgreeOn
  long_eq (yes k) = rw (le-leb i.0 v.cpus k, le-leb i.0 w.cpus (omega (arith, same processors)))
  long_eq (no k) =
      let m : LongForm v i = omega arith in
      let above = only_when (is_above (level l) i) _ _ (λ b. let a = is_above_lem (level l) i b in ap₂ ◌+◌ (same other m l h a) (same free m l h a)) in
      let below = only_when (is_above i (level l)) _ _ (λ b. same high m l h (is_above_lem i (level l) b)) in
      ap₂ (λ x y. pick (leb i.0 y) 0 x) (ap₂ ◌+◌ above below) (same processors)

  pub units_same : units_read w i (level l) ≡ units_read v i (level l)
  unfolding units_read AgreeOn
  units_same =
      ap₂ ◌+◌ (only_when (is_above (level l) i) _ _ (λ b. same shared l h (is_above_lem (level l) i b))) (long_eq (dec_le i.0 v.cpus))
