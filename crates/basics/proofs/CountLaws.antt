-- How many of the indices below n pass a test; and that numbers from 1 to n, each once, are n.
-- Assumes nothing.
use Prim.Native.Nat.{ℕ, zero, suc, ◌+◌, ◌≤◌, ◌<◌, zero-le}
use mathlib.Core.Path.{◌≡◌, refl, sym, ◌∙◌}
use mathlib.Core.Bool.{Bool, true, false, true≢false, ◌&&◌}
use native.Mathlib.Nat.{le_refl}
use native.Mathlib.Omega.{arith}
use native.Mathlib.Decide.{dec_lt, ℕ_discrete}
use borrow.Author.Tests.{eq-eqb, ne_eqb}
use lib.Dec.{eqb}
use Rattle.basics.specs.Choice.{only, within}
use Rattle.basics.specs.Over.{sum_to, count_to, first_to}
use Rattle.basics.proofs.ChoiceLaws.{only_some, within_in, within_low, within_high}
use Rattle.basics.proofs.SumLaws.{sum_add, sum_part, sum_found}
use Rattle.basics.proofs.FirstIndexLaws.{first_is}

-- one more where the test holds, and else none
pub count_on : (b : Bool) (x : ℕ) {y : ℕ} → b ≡ true → y ≡ x + 1 → y ≡ x + only b 1
count_on b x e f = rw e (omega arith)

pub count_off : (b : Bool) (x : ℕ) {y : ℕ} → b ≡ false → y ≡ x → y ≡ x + only b 1
count_off b x e f = rw e (omega arith)

-- ---- none, and one at least

pub count_none : (n : ℕ) (q : ℕ → Bool) → ((i : ℕ) → i < n → q i ≡ false) → count_to n q ≡ 0
unfolding sum_to
count_none zero q each = refl
count_none (suc n) q each = rw (count_none n q (λ i h. each i (omega arith)), each n (le_refl (suc n)))

pub count_some : (n : ℕ) (q : ℕ → Bool) → 0 < count_to n q → first_to n q < n
count_some n q h = go (dec_lt (first_to n q) n)
  where
    go : Dec (first_to n q < n) → first_to n q < n
    go (yes d) = d
    go (no d) = let w = first_is n q in absurd (omega (arith, count_none n q (λ i l. w.clear i (omega arith))))

-- one index passes, and so some do; and the other way round
pub count_one : (n i : ℕ) (q : ℕ → Bool) → i < n → q i ≡ true → 1 ≤ count_to n q
count_one n i q h e = let p = sum_part n i (λ k. only (q k) 1) h in rw e at p

pub count_found : (n : ℕ) (q : ℕ → Bool) → 1 ≤ count_to n q → (i : ℕ) × (i < n) × (q i ≡ true)
count_found n q h = let f = sum_found n (λ k. only (q k) 1) h in (f.0, f.1, (only_some (q f.0) 1 f.2).0)

-- ---- all, and one that does not pass

pub count_most : (n : ℕ) (q : ℕ → Bool) → count_to n q ≤ n
unfolding sum_to
count_most zero q = zero-le
count_most (suc n) q = go (q n) (count_most n q)
  where
    go : (b : Bool) → count_to n q ≤ n → count_to n q + only b 1 ≤ suc n
    go true i = omega arith
    go false i = omega arith

pub count_but : (n i : ℕ) (q : ℕ → Bool) → i < n → q i ≡ false → count_to n q < n
unfolding sum_to
count_but zero i q h e = absurd (omega arith)
count_but (suc n) i q h e = go (ℕ_discrete i n) (q n) refl (λ l. count_but n i q l e)
  where
    go : Dec (i ≡ n) → (b : Bool) → q n ≡ b → (i < n → count_to n q < n) → count_to n q + only b 1 < suc n
    go (yes d) true f ih = absurd (true≢false (sym f ∙ rw d at e))
    go (yes d) false f ih = omega (arith, count_most n q)
    go (no d) true f ih = omega (arith, ih (omega arith))
    go (no d) false f ih = omega (arith, ih (omega arith))

pub count_missed : (n : ℕ) (q : ℕ → Bool) → count_to n q < n → (i : ℕ) × (i < n) × (q i ≡ false)
unfolding sum_to
count_missed zero q h = absurd (omega arith)
count_missed (suc n) q h = go (q n) refl h (count_missed n q)
  where
    go : (b : Bool) → q n ≡ b → count_to n q + only b 1 < suc n → (count_to n q < n → (i : ℕ) × (i < n) × (q i ≡ false)) → (i : ℕ) × (i < suc n) × (q i ≡ false)
    go true f h ih = let r = ih (omega arith) in (r.0, omega (arith, r.1), r.2)
    go false f h ih = (n, le_refl (suc n), f)

-- ---- a sum of sums, either way

sum_zeros : (n : ℕ) → sum_to n (λ _. 0) ≡ 0
unfolding sum_to
sum_zeros zero = refl
sum_zeros (suc n) = rw (sum_zeros n)

pub sum_ones : (n : ℕ) → sum_to n (λ _. 1) ≡ n
unfolding sum_to
sum_ones zero = refl
sum_ones (suc n) = omega (arith, sum_ones n)

pub sum_swap : (m n : ℕ) (f : ℕ → ℕ → ℕ) → sum_to m (λ i. sum_to n (f i)) ≡ sum_to n (λ p. sum_to m (λ i. f i p))
unfolding sum_to
sum_swap zero n f = sym (sum_zeros n)
sum_swap (suc m) n f = rw (sum_swap m n f) (sum_add n (λ p. sum_to m (λ i. f i p)) (f m))

-- ---- a number x is one of 1 to n, once, if it is from 1 to n

pub count_number : (n x : ℕ) (b : Bool) → count_to n (λ p. b && eqb x (p + 1)) ≡ only (b && within 1 n x) 1
unfolding sum_to
count_number zero x b = go b (dec_lt 0 x)
  where
    go : (b : Bool) → Dec (0 < x) → 0 ≡ only (b && within 1 0 x) 1
    go false d = refl
    go true (yes d) = rw (within_high 1 0 x d)
    go true (no d) = rw (within_low 1 0 x (omega arith))
count_number (suc n) x false = omega (arith, count_number n x false)
count_number (suc n) x true = go (count_number n x true) (ℕ_discrete x (n + 1)) (dec_lt x 1) (dec_lt n x)
  where
    go : sum_to n (λ p. only (eqb x (p + 1)) 1) ≡ only (within 1 n x) 1 → Dec (x ≡ n + 1) → Dec (x < 1) → Dec (n < x)
        → sum_to n (λ p. only (eqb x (p + 1)) 1) + only (eqb x (n + 1)) 1 ≡ only (within 1 (suc n) x) 1
    go before (yes e) l h = rw (before, eq-eqb x (n + 1) e, within_high 1 n x (omega arith), within_in 1 (suc n) x (omega arith) (omega arith))
    go before (no e) (yes l) h = rw (before, ne_eqb x (n + 1) e, within_low 1 n x l, within_low 1 (suc n) x l)
    go before (no e) (no l) (yes h) = rw (before, ne_eqb x (n + 1) e, within_high 1 n x h, within_high 1 (suc n) x (omega arith))
    go before (no e) (no l) (no h) = rw (before, ne_eqb x (n + 1) e, within_in 1 n x (omega arith) (omega arith), within_in 1 (suc n) x (omega arith) (omega arith))

-- no two indices pass
pub count_alone : (n : ℕ) (q : ℕ → Bool) → ((h g : ℕ) → h < n → g < n → q h ≡ true → q g ≡ true → h ≡ g) → count_to n q ≤ 1
unfolding sum_to
count_alone zero q a = zero-le
count_alone (suc n) q a = go (q n) refl (count_alone n q (λ h g l m. a h g (omega arith) (omega arith)))
  where
    clear : q n ≡ true → (j : ℕ) → j < n → (b : Bool) → q j ≡ b → b ≡ false
    clear e j m true f = absurd (omega (arith, a j n (omega arith) (omega arith) f e))
    clear e j m false f = refl

    go : (b : Bool) → q n ≡ b → count_to n q ≤ 1 → count_to n q + only b 1 ≤ 1
    go true e i = omega (arith, count_none n q (λ j m. clear e j m (q j) refl))
    go false e i = omega arith
