-- The laws of a test that holds at each index below n.
-- Assumes nothing.
use Prim.Native.Nat.{ℕ, zero, suc, ◌+◌, ◌<◌}
use mathlib.Core.Path.{◌≡◌, refl, ap, ◌∙◌}
use mathlib.Core.Bool.{Bool, true, false, true≢false, ◌&&◌}
use native.Mathlib.Nat.{not-suc-le-zero, zero-add}
use borrow.Author.Tests.{ne_eqb}
use lib.Dec.{eqb}
use native.Mathlib.Numerals.{add-one}
use native.Mathlib.Decide.{ℕ_discrete}
use native.Mathlib.Omega.{arith}
use Rattle.basics.specs.Over.{sum_to, all_to}
use Rattle.basics.proofs.ChoiceLaws.{and_true}

pub all_none : (p : ℕ → Bool) → all_to 0 p ≡ true
unfolding all_to
all_none p = refl

pub all_more : (n : ℕ) (p : ℕ → Bool) → all_to n p ≡ true → p n ≡ true → all_to (n + 1) p ≡ true
unfolding all_to
all_more n p e f = rw (add-one, e, f)

pub all_at : (n k : ℕ) (p : ℕ → Bool) → all_to n p ≡ true → k < n → p k ≡ true
unfolding all_to
all_at zero k p e h = absurd (not-suc-le-zero h)
all_at (suc n) k p e h =
    let a = and_true (all_to n p) (p n) e in
    go (ℕ_discrete k n) a.1 (λ l. all_at n k p a.0 l)
  where
    go : Dec (k ≡ n) → p n ≡ true → (k < n → p k ≡ true) → p k ≡ true
    go (yes d) last before = rw d last
    go (no d) last before = before (omega arith)

-- it does not hold at one of them
pub all_fails : (n k : ℕ) (p : ℕ → Bool) → k < n → p k ≡ false → all_to n p ≡ false
all_fails n k p h e = go (all_to n p) refl
  where
    go : (b : Bool) → all_to n p ≡ b → b ≡ false
    go true f = let z = all_at n k p f h in cc
    go false f = refl

-- two tests that agree
pub all_eq : (n : ℕ) (p q : ℕ → Bool) → ((k : ℕ) → k < n → p k ≡ q k) → all_to n p ≡ all_to n q
unfolding all_to
all_eq zero p q e = refl
all_eq (suc n) p q e = rw (all_eq n p q (λ k l. e k (omega arith)), e n (omega arith))

-- it holds at each
pub all_hold : (n : ℕ) (p : ℕ → Bool) → ((k : ℕ) → k < n → p k ≡ true) → all_to n p ≡ true
unfolding all_to
all_hold zero p h = refl
all_hold (suc n) p h = rw (all_hold n p (λ k l. h k (omega arith)), h n (omega arith))

-- where it does not hold at all of them, there is one at which it does not
pub all_missed : (n : ℕ) (p : ℕ → Bool) → all_to n p ≡ false → (k : ℕ) × (k < n) × (p k ≡ false)
unfolding all_to
all_missed zero p e = absurd (true≢false e)
all_missed (suc n) p e = go (p n) refl (λ f. all_missed n p f)
  where
    and_left : (a : Bool) → (a && true) ≡ false → a ≡ false
    and_left true e = e
    and_left false e = refl

    go : (b : Bool) → p n ≡ b → (all_to n p ≡ false → (k : ℕ) × (k < n) × (p k ≡ false)) → (k : ℕ) × (k < suc n) × (p k ≡ false)
    go false f before = (n, omega arith, f)
    go true f before = let z = before (and_left (all_to n p) (rw f at e)) in (z.0, omega (arith, z.1), z.2)

-- a sum is 0 exactly if each of its values is
pub all_zero : (n : ℕ) (f : ℕ → ℕ) → eqb (sum_to n f) 0 ≡ all_to n (λ k. eqb (f k) 0)
unfolding all_to sum_to
all_zero zero f = refl
all_zero (suc n) f = plus_zero (sum_to n f) (f n) ∙ ap (λ (b : Bool). b && eqb (f n) 0) (all_zero n f)
  where
    plus_zero : (x y : ℕ) → eqb (x + y) 0 ≡ (eqb x 0 && eqb y 0)
    plus_zero zero y = rw zero-add
    plus_zero (suc x) y = rw (ne_eqb (suc x + y) 0 (λ e. omega arith), ne_eqb (suc x) 0 (λ e. omega arith))
