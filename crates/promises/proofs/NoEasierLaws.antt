-- Where a table is no easier than another, no term of a task's demand is smaller, and so no bound.
-- Assumes nothing.
use Prim.Native.Nat.{ℕ, ◌≤◌, ◌<◌}
use mathlib.Core.Path.{◌≡◌, refl, sym, ap, ◌∙◌}
use mathlib.Core.Bool.{Bool, not}
use native.Mathlib.Nat.{le_refl, le_trans, mul-le-mul}
use native.Mathlib.Omega.{arith}
use Rattle.basics.specs.Choice.{only}
use Rattle.basics.proofs.ChoiceLaws.{only_below, only_le}
use Rattle.basics.proofs.SumLaws.{sum_le, sum_some}
use Rattle.basics.proofs.MaxLaws.{max_wider}
use Rattle.table.specs.declared.Resource.{Resource}
use Rattle.table.specs.Limits.{max_resources}
use Rattle.theory.specs.Work.{workload}
use Rattle.theory.specs.View.{View, level, resource, is_above, over_resources, largest_below, uses, ceiling}
use Rattle.theory.specs.Demand.{shared_CT, other_CT, all_CT, high_CT, DB, load_of, demand_of}
use Rattle.theory.specs.Bound.{Least}
use Rattle.theory.proofs.WorkLaws.{workload_rises}
use Rattle.theory.proofs.GrowLaws.{workload_grows}
use Rattle.theory.proofs.PassLaws.{ceiling_above}
use Rattle.theory.proofs.DemandLaws.{Runs, TermsGrow}
use Rattle.theory.proofs.BoundLaws.{terms_keep}
use Rattle.promises.specs.NoEasier.{EachTask, NoEasier}

-- what the check leaves of a table, as far as the law needs it
pub record Fits (v : View) : Type 0 where
  pub runs : Runs v
  pub run_deadline : EachTask v (λ l. v.C l ≤ v.D l)
  pub deadline_period : EachTask v (λ l. v.D l ≤ v.T l)
  pub totals : EachTask v (λ l. all_CT v l ≤ v.C l)

module _ (v w : View) (s : NoEasier v w) (fits : Fits w) (i : ℕ) (hi : i < v.n) where
  in_second : (l : ℕ) → l < v.n → l < w.n
  in_second l h = omega (arith, s.n)

  longest_le : (k : ℕ) → k < max_resources
      → largest_below v (level i) (λ l. v.c l (resource k)) ≤ largest_below w (level i) (λ l. w.c l (resource k))
  longest_le k r = max_wider v.n w.n _ _ s.n (λ l h. only_le (is_above (level i) (level l)) _ _ _ refl (s.c l k h r))

  DB_le : DB v (level i) ≤ DB w (level i)
  unfolding DB
  DB_le =
      sum_le max_resources _ _
      (λ k r. only_le (uses v (level i) (resource k)) _ _ _ (s.pairs i k hi r) (mul-le-mul (s.N i k hi r) (longest_le k r)))

  -- the same resources have a ceiling above i, for the tasks above i use the same
  ceiling_eq : (k : ℕ) → k < max_resources
      → is_above (ceiling w (resource k)) (level i) ≡ is_above (ceiling v (resource k)) (level i)
  ceiling_eq k r =
      ceiling_above w i (resource k) (omega (arith, s.n))
      ∙ sum_some i _ _ (λ l h. s.pairs l k (omega arith) r)
      ∙ sym (ceiling_above v i (resource k) (omega arith))

  -- x units of a task in the first, y in the second, which are no fewer and at most its C
  load_le : (t l x y : ℕ) → l < v.n → x ≤ y → y ≤ w.C (level l) → load_of workload v t (level l) x ≤ load_of workload w t (level l) y
  load_le t l x y h le most =
      let j = in_second l h in
      le_trans
      (rw (← s.D l h) (workload_rises (v.T (level l)) (w.T (level l)) (w.D (level l)) t t x (fits.runs.T l j) (s.T l h) (le_refl t)))
      (workload_grows (w.T (level l)) (w.D (level l)) t x y (fits.runs.T l j) (fits.deadline_period l j) le (le_trans most (fits.run_deadline l j)))

  -- the CT of some of a task's resources
  locks_le : (p q : Resource → Bool) → ((k : ℕ) → k < max_resources → q (resource k) ≡ p (resource k)) → (t l : ℕ) → l < v.n
      → load_of workload v t (level l) (over_resources (λ k. only (p k) (v.CT (level l) k)))
      ≤ load_of workload w t (level l) (over_resources (λ k. only (q k) (w.CT (level l) k)))
  unfolding all_CT
  locks_le p q e t l h =
      load_le t l _ _ h
      (sum_le max_resources _ _ (λ k r. only_le (p (resource k)) _ _ _ (e k r) (s.CT l k h r)))
      (le_trans (sum_le max_resources _ _ (λ k r. only_below (q (resource k)) _)) (fits.totals l (in_second l h)))

  terms : (t : ℕ) → TermsGrow workload workload v w (level i) t t
  unfolding shared_CT other_CT high_CT
  terms t =
      record {
        some = fits.runs.cpus;
        cpus = s.cpus;
        n = s.n;
        C = s.C i hi;
        DB = DB_le;
        S = locks_le (uses v (level i)) (uses w (level i)) (λ k r. s.pairs i k hi r) t;
        O = locks_le (λ k. not (uses v (level i) k)) (λ k. not (uses w (level i) k)) (λ k r. ap not (s.pairs i k hi r)) t;
        F = λ l h. load_le t l _ _ h (omega (arith, s.free l h)) (omega arith);
        L = locks_le (λ k. is_above (ceiling v k) (level i)) (λ k. is_above (ceiling w k) (level i)) ceiling_eq t;
      }

-- THE ONE RESULT, over what the analysis reads
pub no_easier_keeps : (v w : View) → NoEasier v w → Fits w → (i : ℕ) → i < v.n → (t : ℕ) → Least (demand_of w (level i)) (w.D (level i)) t
    → (u : ℕ) × Least (demand_of v (level i)) (v.D (level i)) u × (u ≤ t)
no_easier_keeps v w s fits i hi = terms_keep workload workload v w (level i) (s.D i hi) (terms v w s fits i hi)
