-- The laws of the sum over the indices below n.
-- Assumes nothing.
use Prim.Native.Nat.{ℕ, zero, suc, ◌+◌, ◌*◌, ◌≤◌, ◌<◌}
use mathlib.Core.Path.{◌≡◌, refl, sym, ap₂, ◌∙◌}
use mathlib.Core.Bool.{◌||◌}
use native.Mathlib.Nat.{le_refl, le_trans, zero-add, not-suc-le-zero}
use native.Mathlib.Numerals.{add-one}
use native.Mathlib.Decide.{ℕ_discrete}
use native.Mathlib.Omega.{arith}
use borrow.Author.Tests.{lt-ltb, eq-eqb, ne_eqb}
use lib.Dec.{ltb, eqb}
use Rattle.basics.specs.Choice.{only}
use Rattle.basics.specs.Over.{sum_to}

pub sum_none : (g : ℕ → ℕ) → 0 ≡ sum_to 0 g
unfolding sum_to
sum_none g = refl

pub sum_more : (i : ℕ) (g : ℕ → ℕ) → sum_to (i + 1) g ≡ sum_to i g + g i
unfolding sum_to
sum_more i g = rw add-one

-- nowhere larger, so no larger in sum
pub sum_le : (n : ℕ) (g h : ℕ → ℕ) → ((k : ℕ) → k < n → g k ≤ h k) → sum_to n g ≤ sum_to n h
unfolding sum_to
sum_le zero g h le = le_refl 0
sum_le (suc n) g h le = omega (arith, sum_le n g h (λ k l. le k (omega arith)), le n (le_refl (suc n)))

-- over more indices, no smaller
pub sum_rises : (m n : ℕ) (g : ℕ → ℕ) → m ≤ n → sum_to m g ≤ sum_to n g
unfolding sum_to
sum_rises m zero g h = let e : m ≡ 0 = omega arith in rw e (le_refl 0)
sum_rises m (suc n) g h = go (ℕ_discrete m (suc n)) (λ l. sum_rises m n g l)
  where
    go : Dec (m ≡ suc n) → (m ≤ n → sum_to m g ≤ sum_to n g) → sum_to m g ≤ sum_to (suc n) g
    go (yes e) ih = rw e (le_refl (sum_to (suc n) g))
    go (no d) ih = omega (arith, ih (omega arith))

-- each value is at most the sum
pub sum_part : (n k : ℕ) (g : ℕ → ℕ) → k < n → g k ≤ sum_to n g
sum_part n k g h = omega (arith, sum_more k g, sum_rises (k + 1) n g (omega arith))

pub sum_bound : (n b : ℕ) (g : ℕ → ℕ) → ((k : ℕ) → k < n → g k ≤ b) → sum_to n g ≤ n * b
unfolding sum_to
sum_bound zero b g le = omega arith
sum_bound (suc n) b g le = omega (arith, sum_bound n b g (λ k l. le k (omega arith)), le n (le_refl (suc n)))

pub sum_eq : (n : ℕ) (g h : ℕ → ℕ) → ((k : ℕ) → k < n → g k ≡ h k) → sum_to n g ≡ sum_to n h
unfolding sum_to
sum_eq zero g h eq = refl
sum_eq (suc n) g h eq = omega (arith, sum_eq n g h (λ k l. eq k (omega arith)), eq n (le_refl (suc n)))

-- they differ in one value only
pub sum_one : (n k : ℕ) (g h : ℕ → ℕ) → k < n → ((i : ℕ) → (i ≡ k → ⊥) → g i ≡ h i) → sum_to n h + g k ≡ sum_to n g + h k
unfolding sum_to
sum_one zero k g h l eq = absurd (not-suc-le-zero l)
sum_one (suc n) k g h l eq = go (ℕ_discrete k n) (λ m. sum_one n k g h m eq)
  where
    go : Dec (k ≡ n) → (k < n → sum_to n h + g k ≡ sum_to n g + h k) → sum_to n h + h n + g k ≡ sum_to n g + g n + h k
    go (yes e) ih = rw e (omega (arith, sum_eq n g h (λ i m. eq i (λ q. omega arith))))
    go (no d) ih = omega (arith, ih (omega arith), eq n (λ q. d (sym q)))

pub sum_add : (n : ℕ) (g h : ℕ → ℕ) → sum_to n g + sum_to n h ≡ sum_to n (λ k. g k + h k)
unfolding sum_to
sum_add zero g h = refl
sum_add (suc n) g h = omega (arith, sum_add n g h)

-- a sum is something exactly if a value is
plus_some : (a b : ℕ) → ltb 0 (a + b) ≡ (ltb 0 a || ltb 0 b)
plus_some zero b = rw zero-add
plus_some (suc a) b = rw (lt-ltb 0 (suc a + b) (omega arith), lt-ltb 0 (suc a) (omega arith))

pub sum_some : (n : ℕ) (g h : ℕ → ℕ) → ((k : ℕ) → k < n → ltb 0 (g k) ≡ ltb 0 (h k)) → ltb 0 (sum_to n g) ≡ ltb 0 (sum_to n h)
unfolding sum_to
sum_some zero g h eq = refl
sum_some (suc n) g h eq =
    plus_some (sum_to n g) (g n)
    ∙ ap₂ ◌||◌ (sum_some n g h (λ k l. eq k (omega arith))) (eq n (le_refl (suc n)))
    ∙ sym (plus_some (sum_to n h) (h n))

-- nowhere larger, and over no more indices
pub sum_wider : (m n : ℕ) (g h : ℕ → ℕ) → m ≤ n → ((k : ℕ) → k < m → g k ≤ h k) → sum_to m g ≤ sum_to n h
sum_wider m n g h l le = le_trans (sum_le m g h le) (sum_rises m n h l)

-- a sum that is something has a value that is
pub sum_found : (n : ℕ) (g : ℕ → ℕ) → 1 ≤ sum_to n g → (k : ℕ) × (k < n) × (1 ≤ g k)
unfolding sum_to
sum_found zero g h = absurd (not-suc-le-zero h)
sum_found (suc n) g h = go (ℕ_discrete (g n) 0) (λ s. sum_found n g s)
  where
    go : Dec (g n ≡ 0) → (1 ≤ sum_to n g → (k : ℕ) × (k < n) × (1 ≤ g k)) → (k : ℕ) × (k < suc n) × (1 ≤ g k)
    go (yes e) ih = let f = ih (omega arith) in (f.0, omega (arith, f.1), f.2)
    go (no d) ih = (n, le_refl (suc n), omega arith)

-- one value alone
pub sum_single : (n a x : ℕ) → a < n → sum_to n (λ k. only (eqb a k) x) ≡ x
unfolding sum_to
sum_single zero a x h = absurd (not-suc-le-zero h)
sum_single (suc n) a x h = go (ℕ_discrete a n) (λ l. sum_single n a x l)
  where
    before : a ≡ n → sum_to n (λ k. only (eqb a k) x) ≡ 0
    before e = omega (arith, sum_bound n 0 (λ k. only (eqb a k) x) (λ k l. rw (ne_eqb a k (λ q. omega arith)) (le_refl 0)))

    go : Dec (a ≡ n) → (a < n → sum_to n (λ k. only (eqb a k) x) ≡ x) → sum_to n (λ k. only (eqb a k) x) + only (eqb a n) x ≡ x
    go (yes e) ih = rw (eq-eqb a n e) (omega (arith, before e))
    go (no d) ih = rw (ne_eqb a n d) (omega (arith, ih (omega arith)))

-- values put into slots, each into one: all slots together have the sum
pub sum_slots : (m n : ℕ) (s x : ℕ → ℕ) → ((j : ℕ) → j < n → s j < m) → sum_to m (λ k. sum_to n (λ j. only (eqb (s j) k) (x j))) ≡ sum_to n x
unfolding sum_to
sum_slots m zero s x h = omega (arith, sum_bound m 0 (λ k. 0) (λ k l. le_refl 0))
sum_slots m (suc n) s x h =
    omega (
      arith,
      sum_add m (λ k. sum_to n (λ j. only (eqb (s j) k) (x j))) (λ k. only (eqb (s n) k) (x n)),
      sum_slots m n s x (λ j l. h j (omega arith)),
      sum_single m (s n) (x n) (h n (le_refl (suc n))),
    )

-- the first term apart; and a factor
pub sum_first : (n : ℕ) (g : ℕ → ℕ) → sum_to (suc n) g ≡ g 0 + sum_to n (λ j. g (suc j))
unfolding sum_to
sum_first zero g = omega arith
sum_first (suc n) g = omega (arith, sum_first n g)

pub sum_scale : (n m : ℕ) (g : ℕ → ℕ) → sum_to n (λ s. m * g s) ≡ m * sum_to n g
unfolding sum_to
sum_scale zero m g = omega arith
sum_scale (suc n) m g = omega (arith, sum_scale n m g)
