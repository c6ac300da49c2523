-- The figures of some tasks are the same in two tables, by one test that computes: all but one run time, and those of a task and of the tasks that it reads.
-- Assumes nothing.
use Prim.Native.Nat.{ℕ, suc, ◌<◌}
use mathlib.Core.Path.{◌≡◌, refl, ap}
use mathlib.Core.Bool.{Bool, true, not, ◌||◌, or-true}
use mathlib.Core.List.{List, [], ◌∷◌}
use mathlib.Core.Logic.{◌⊎◌, inl, inr}
use borrow.Author.Tests.{eqb-true, eq-eqb, ne_eqb, lt-ltb}
use lib.Dec.{T, eqb, ltb, lit<}
use lib.ListN.{get_or}
use Rattle.basics.specs.Over.{all_to}
use Rattle.basics.proofs.AllLaws.{all_at}
use Rattle.table.specs.declared.Level.{Level}
use Rattle.table.specs.declared.Resource.{Resource}
use Rattle.table.specs.Limits.{max_resources}
use Rattle.theory.specs.View.{View, level, resource}
use Rattle.theory.specs.Demand.{units_read}
use Rattle.promises.specs.Reads.{Reads, longest, Unchanged, OnlyRun, SameWhereRead}
use Rattle.promises.proofs.ReadsLaws.{Fitting, read_units}
use Rattle.promises.proofs.AgreeByTest.{same_of_test, Passed, same_of, agrees_on, agree_by}

module _ (v w : View) where
  -- the same of each pair of each task that passes a test
  abbrev same_pairs : (ℕ → Bool) → (View → Level → Resource → ℕ) → Bool
  same_pairs t g = all_to max_resources (λ k. same_of_test v w t (λ x l. g x l (resource k)))

  -- the rules of `Unchanged`, in its order
  unfoldable pub unchanged : (ℕ → Bool) → (ℕ → Bool) → List Bool
  unchanged p q =
      eqb w.cpus v.cpus
      ∷ eqb w.n v.n
      ∷ same_of_test v w p (λ x. x.T)
      ∷ same_of_test v w q (λ x. x.C)
      ∷ same_of_test v w p (λ x. x.D)
      ∷ same_pairs p (λ x. x.N)
      ∷ same_pairs p (λ x. x.c)
      ∷ same_pairs p (λ x. x.CT)
      ∷ []

  pairs_of : (named : Level → Type 0) (t : ℕ → Bool) → Passed v w named t → (g : View → Level → Resource → ℕ) → same_pairs t g ≡ true
      → (l k : ℕ) → l < v.n → k < max_resources → named (level l) → g w (level l) (resource k) ≡ g v (level l) (resource k)
  pairs_of named t passed g e l k h r = same_of v w named t passed (λ x l. g x l (resource k)) (all_at max_resources k _ e r) l h

  pub unchanged_by : (rest runs : Level → Type 0) (p q : ℕ → Bool) → Passed v w rest p → Passed v w runs q → all_to 8 (λ r. get_or (unchanged p q) r true) ≡ true → Unchanged rest runs v w
  unfolding unchanged
  unchanged_by rest runs p q a b e =
      let rule : (r : ℕ) → T (ltb r 8) → get_or (unchanged p q) r true ≡ true = λ r h. all_at 8 r _ e (lit< h) in
      record {
        cpus = eqb-true _ _ (rule 0 tt);
        n = eqb-true _ _ (rule 1 tt);
        T = same_of v w rest p a (λ x. x.T) (rule 2 tt);
        C = same_of v w runs q b (λ x. x.C) (rule 3 tt);
        D = same_of v w rest p a (λ x. x.D) (rule 4 tt);
        N = pairs_of rest p a (λ x. x.N) (rule 5 tt);
        c = pairs_of rest p a (λ x. x.c) (rule 6 tt);
        CT = pairs_of rest p a (λ x. x.CT) (rule 7 tt);
      }

  -- all but the run time of task j
  abbrev is_other : Level → ℕ → Bool
  is_other j l = not (eqb (suc l) j.0)

  pub only_run_by : (j : Level) → all_to 8 (λ r. get_or (unchanged (λ l. true) (is_other j)) r true) ≡ true → OnlyRun j v w
  only_run_by j =
      unchanged_by _ _ (λ l. true) (is_other j) (λ l h n. refl)
      (λ l h d. ap not (ne_eqb (suc l) j.0 (λ e. d (ap (λ (x : ℕ). record { 0 = x }) e))))

  -- i, and the tasks that it reads
  abbrev is_named : Level → ℕ → Bool
  is_named i l = eqb (suc l) i.0 || ltb 0 (units_read v i (level l))

  named_is : Fitting v → (i : Level) → Passed v w (λ l. (l ≡ i) ⊎ Reads v i l) (is_named i)
  named_is fits i l h (inl e) = rw (eq-eqb (suc l) i.0 (ap (λ (x : Level). x.0) e))
  named_is fits i l h (inr r) = rw (lt-ltb 0 (units_read v i (level l)) (read_units v fits i l h r), or-true (eqb (suc l) i.0))

  pub where_read_by : Fitting v → (i : Level) → all_to 8 (λ r. get_or (unchanged (is_named i) (is_named i)) r true) ≡ true → agrees_on v w i longest ≡ true → SameWhereRead v w i
  where_read_by fits i e f = (unchanged_by _ _ (is_named i) (is_named i) (named_is fits i) (named_is fits i) e, agree_by v w i fits longest f)
