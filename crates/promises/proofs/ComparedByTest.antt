-- Two tables compared figure by figure, by one test that computes where the numbers are written out.
-- Assumes nothing.
use Prim.Native.Nat.{ℕ, ◌-◌, ◌≤◌, ◌<◌}
use mathlib.Core.Path.{◌≡◌, refl, sym}
use mathlib.Core.Bool.{Bool, true, false, beq}
use mathlib.Core.List.{List, [], ◌∷◌}
use borrow.Author.Tests.{leb-true, eqb-true}
use lib.Dec.{T, leb, ltb, eqb, lit<}
use lib.ListN.{get_or}
use Rattle.basics.specs.Over.{all_to}
use Rattle.basics.proofs.AllLaws.{all_at}
use Rattle.table.specs.declared.Level.{Level}
use Rattle.table.specs.declared.Resource.{Resource}
use Rattle.table.specs.Limits.{max_resources}
use Rattle.theory.specs.View.{View, level, resource, uses}
use Rattle.theory.specs.Demand.{all_CT}
use Rattle.promises.specs.NoEasier.{Compared, Any}

both_at : (n m : ℕ) (p : ℕ → ℕ → Bool) → all_to n (λ l. all_to m (p l)) ≡ true → (l k : ℕ) → l < n → k < m → p l k ≡ true
both_at n m p e l k h r = all_at m k (p l) (all_at n l (λ l. all_to m (p l)) e h) r

beq_true : (a b : Bool) → beq a b ≡ true → a ≡ b
beq_true true true e = refl
beq_true true false e = sym e
beq_true false true e = e
beq_true false false e = refl

-- a relation of two numbers, and a test that is true only where it holds
pub record Tested (R : ℕ → ℕ → Type 0) : Type 0 where
  pub test : ℕ → ℕ → Bool
  pub sound : (x y : ℕ) → test x y ≡ true → R x y

abbrev pub at_most : Tested ◌≤◌
at_most = record { test = leb; sound = leb-true }

abbrev pub equal : Tested ◌≡◌
equal = record { test = eqb; sound = eqb-true }

abbrev pub any : Tested Any
any = record { test = λ x y. true; sound = λ x y e. tt }

module _ {rest run free : ℕ → ℕ → Type 0} (a : Tested rest) (b : Tested run) (c : Tested free) (v w : View) where
  -- of each task, and of each task and resource, of the first
  abbrev tasks : (Level → Bool) → Bool
  tasks p = all_to v.n (λ l. p (level l))

  abbrev pairs : (Level → Resource → Bool) → Bool
  pairs p = all_to v.n (λ l. all_to max_resources (λ k. p (level l) (resource k)))

  -- the rules of `Compared`, in its order
  unfoldable pub rules : List Bool
  rules =
      a.test w.cpus v.cpus
      ∷ a.test v.n w.n
      ∷ tasks (λ l. a.test (w.T l) (v.T l))
      ∷ pairs (λ l k. a.test (v.N l k) (w.N l k))
      ∷ pairs (λ l k. a.test (v.c l k) (w.c l k))
      ∷ tasks (λ l. b.test (v.C l) (w.C l))
      ∷ pairs (λ l k. b.test (v.CT l k) (w.CT l k))
      ∷ tasks (λ l. c.test (v.C l - all_CT v l) (w.C l - all_CT w l))
      ∷ tasks (λ l. eqb (w.D l) (v.D l))
      ∷ pairs (λ l k. beq (uses w l k) (uses v l k))
      ∷ []

  abbrev pub is_compared : Bool
  is_compared = all_to 10 (λ r. get_or rules r true)

  pub compared_by : is_compared ≡ true → Compared rest run free v w
  unfolding rules
  compared_by e =
      let rule : (r : ℕ) → T (ltb r 10) → get_or rules r true ≡ true = λ r h. all_at 10 r _ e (lit< h) in
      record {
        cpus = a.sound _ _ (rule 0 tt);
        n = a.sound _ _ (rule 1 tt);
        T = λ l h. a.sound _ _ (all_at _ l _ (rule 2 tt) h);
        N = λ l k h r. a.sound _ _ (both_at _ _ _ (rule 3 tt) l k h r);
        c = λ l k h r. a.sound _ _ (both_at _ _ _ (rule 4 tt) l k h r);
        C = λ l h. b.sound _ _ (all_at _ l _ (rule 5 tt) h);
        CT = λ l k h r. b.sound _ _ (both_at _ _ _ (rule 6 tt) l k h r);
        free = λ l h. c.sound _ _ (all_at _ l _ (rule 7 tt) h);
        D = λ l h. eqb-true _ _ (all_at _ l _ (rule 8 tt) h);
        pairs = λ l k h r. beq_true _ _ (both_at _ _ _ (rule 9 tt) l k h r);
      }
