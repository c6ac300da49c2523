-- What a pass over the tasks, from the first on, works out of the definitions.
-- Assumes nothing.
use Prim.Native.Nat.{ℕ, zero, suc, ◌+◌, ◌*◌, ◌≤◌, ◌<◌}
use mathlib.Core.Path.{◌≡◌, sym, ◌∙◌}
use mathlib.Core.Bool.{Bool, true, false, not}
use native.Mathlib.Nat.{le_of_eq}
use native.Mathlib.Decide.{dec_lt}
use native.Mathlib.Omega.{arith}
use borrow.Author.Tests.{ltb-true, ltb-false, lt-ltb, le-ltb}
use lib.Dec.{ltb, leb-suc-suc}
use Rattle.table.specs.declared.Level.{Level}
use Rattle.table.specs.declared.Resource.{Resource}
use Rattle.table.specs.Limits.{max_resources}
use Rattle.basics.specs.Choice.{only}
use Rattle.basics.specs.Over.{sum_to, max_to, first_to}
use Rattle.basics.proofs.SumLaws.{sum_part, sum_bound, sum_eq, sum_add}
use Rattle.basics.proofs.MaxLaws.{max_bound}
use Rattle.basics.proofs.FirstIndexLaws.{First, first_is}
use Rattle.theory.specs.View.{View, level, resource, is_above, uses, ceiling}
use Rattle.theory.specs.Demand.{shared_CT, other_CT, all_CT}

-- the tests of two facts that go together are equal
same_test : (a b c d : ℕ) → (a < b → c < d) → (c < d → a < b) → Dec (a < b) → ltb a b ≡ ltb c d
same_test a b c d f g (yes l) = lt-ltb a b l ∙ sym (lt-ltb c d (f l))
same_test a b c d f g (no n) =
    let k : c < d → ⊥ = λ h. n (g h) in
    le-ltb a b (omega arith) ∙ sym (le-ltb c d (omega arith))

-- the first of n values that is something is below i exactly if the values below i add up to something
first_above : (n i f : ℕ) (g : ℕ → ℕ) → i ≤ n → First n (λ j. ltb 0 (g j)) f → Dec (f < i) → ltb f i ≡ ltb 0 (sum_to i g)
first_above n i f g h w d =
    same_test f i 0 (sum_to i g)
    (λ l. omega (arith, sum_part i f g l, ltb-true 0 (g f) (w.found (omega arith))))
    (go d)
    d
  where
    go : Dec (f < i) → 0 < sum_to i g → f < i
    go (yes l) s = l
    go (no m) s = absurd (omega (arith, sum_bound i 0 g (λ j k. ltb-false 0 (g j) (w.clear j (omega arith)))))

above_slot : (l i : ℕ) → is_above (level l) (level i) ≡ ltb l i
above_slot l i = leb-suc-suc (suc l) i

-- a resource's ceiling is above i exactly if the requests for it above i add up to something
pub ceiling_above : (v : View) (i : ℕ) (k : Resource) → i ≤ v.n
    → is_above (ceiling v k) (level i) ≡ ltb 0 (sum_to i (λ j. v.N (level j) k))
unfolding ceiling
ceiling_above v i k h =
    above_slot (first_to v.n (λ j. uses v (level j) k)) i
    ∙ first_above v.n i _ (λ j. v.N (level j) k) h (first_is v.n (λ j. uses v (level j) k)) (dec_lt _ i)

-- what i uses and what it does not use make up all
both : (b : Bool) (x : ℕ) → only b x + only (not b) x ≡ x
both true x = omega arith
both false x = omega arith

pub split_all : (v : View) (i l : Level) → shared_CT v i l + other_CT v i l ≡ all_CT v l
unfolding shared_CT other_CT all_CT
split_all v i l = sum_add max_resources _ _ ∙ sum_eq max_resources _ _ (λ k _. both (uses v i (resource k)) (v.CT l (resource k)))

not_above : (l i x : ℕ) → i ≤ l → only (is_above (level l) (level i)) x ≡ 0
not_above l i x h = rw (le-ltb (suc l) (suc i) (omega arith))

-- none of the first i + 1 tasks is below i
pub largest_none : (i : ℕ) (g : Level → ℕ) → 0 ≡ max_to (i + 1) (λ l. only (is_above (level i) (level l)) (g (level l)))
largest_none i g = omega (arith, max_bound (i + 1) 0 _ (λ l h. le_of_eq (not_above i l (g (level l)) (omega arith))))

-- where N is 0, so is the product
pub where_used : (n w : ℕ) → n * w ≡ only (ltb 0 n) (n * w)
where_used zero w = omega arith
where_used (suc n) w = rw (lt-ltb 0 (suc n) (omega arith))
