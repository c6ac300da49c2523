-- The laws of the largest value over the indices below n.
-- Assumes nothing.
use Prim.Native.Nat.{ℕ, zero, suc, ◌+◌, ◌≤◌, ◌<◌, max}
use mathlib.Core.Path.{◌≡◌, refl, ap₂}
use native.Mathlib.Nat.{le_refl, le_trans, le_antisymm}
use native.Mathlib.Numerals.{add-one}
use native.Mathlib.Decide.{ℕ_discrete}
use native.Mathlib.Omega.{arith}
use borrow.Author.Tests.{eq-eqb}
use lib.Dec.{eqb}
use Rattle.basics.specs.Choice.{only}
use Rattle.basics.specs.Over.{max_to}
use Rattle.basics.proofs.ChoiceLaws.{only_below}

pub max_more : (i : ℕ) (g : ℕ → ℕ) → max_to (i + 1) g ≡ max (max_to i g) (g i)
unfolding max_to
max_more i g = rw add-one

pub max_bound : (n b : ℕ) (g : ℕ → ℕ) → ((k : ℕ) → k < n → g k ≤ b) → max_to n g ≤ b
unfolding max_to
max_bound zero b g le = omega arith
max_bound (suc n) b g le = omega (arith, max_bound n b g (λ k l. le k (omega arith)), le n (le_refl (suc n)))

-- nowhere larger, so the largest is no larger
pub max_le : (n : ℕ) (g h : ℕ → ℕ) → ((k : ℕ) → k < n → g k ≤ h k) → max_to n g ≤ max_to n h
unfolding max_to
max_le zero g h le = le_refl 0
max_le (suc n) g h le = omega (arith, max_le n g h (λ k l. le k (omega arith)), le n (le_refl (suc n)))

-- over more indices, no smaller
pub max_rises : (m n : ℕ) (g : ℕ → ℕ) → m ≤ n → max_to m g ≤ max_to n g
unfolding max_to
max_rises m zero g h = let e : m ≡ 0 = omega arith in rw e (le_refl 0)
max_rises m (suc n) g h = go (ℕ_discrete m (suc n)) (λ l. max_rises m n g l)
  where
    go : Dec (m ≡ suc n) → (m ≤ n → max_to m g ≤ max_to n g) → max_to m g ≤ max_to (suc n) g
    go (yes e) ih = rw e (le_refl (max_to (suc n) g))
    go (no d) ih = omega (arith, ih (omega arith))

-- nowhere larger, and over no more indices
pub max_wider : (m n : ℕ) (g h : ℕ → ℕ) → m ≤ n → ((k : ℕ) → k < m → g k ≤ h k) → max_to m g ≤ max_to n h
max_wider m n g h l le = le_trans (max_le m g h le) (max_rises m n h l)

pub max_part : (n k : ℕ) (g : ℕ → ℕ) → k < n → g k ≤ max_to n g
max_part n k g h = omega (arith, max_more k g, max_rises (k + 1) n g (omega arith))

pub max_eq : (n : ℕ) (g h : ℕ → ℕ) → ((k : ℕ) → k < n → g k ≡ h k) → max_to n g ≡ max_to n h
unfolding max_to
max_eq zero g h eq = refl
max_eq (suc n) g h eq = ap₂ max (max_eq n g h (λ k l. eq k (omega arith))) (eq n (le_refl (suc n)))

-- one value alone
pub max_single : (n a x : ℕ) → a < n → max_to n (λ k. only (eqb a k) x) ≡ x
max_single n a x h =
    let e : only (eqb a a) x ≡ x = rw (eq-eqb a a refl) in
    le_antisymm (max_bound n x _ (λ k l. only_below (eqb a k) x)) (omega (arith, max_part n a (λ k. only (eqb a k) x) h))
