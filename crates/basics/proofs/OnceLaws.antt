-- A test that holds once.
-- Assumes nothing.
use Prim.Native.Nat.{ℕ, zero, suc, ◌+◌, ◌≤◌, ◌<◌}
use mathlib.Core.Path.{◌≡◌, refl, sym}
use mathlib.Core.Bool.{Bool, true, false, ◌&&◌}
use native.Mathlib.Omega.{arith}
use native.Mathlib.Nat.{le_refl, not-suc-le-zero}
use native.Mathlib.Decide.{ℕ_discrete}
use Rattle.basics.specs.Choice.{pick, only}
use Rattle.basics.specs.Over.{sum_to, count_to, first_to}
use Rattle.basics.proofs.SumLaws.{sum_part}
use Rattle.basics.proofs.FirstIndexLaws.{first_by}
use Rattle.basics.proofs.CountLaws.{count_none, count_some}

-- ---- tests

-- a test either holds or fails, and not both
pub both : {A : Type 0} {b : Bool} → b ≡ true → b ≡ false → A
both e f = let z : ◌≡◌ {A = ℕ} 0 1 = cc in absurd (omega arith)

pub and_both : (a b : Bool) → a ≡ true → b ≡ true → (a && b) ≡ true
and_both a b e f = rw (e, f)

-- what follows where the test holds, as a choice
pub pick_is : (b c : Bool) → pick b c true ≡ true → b ≡ true → c ≡ true
pick_is true c e f = e
pick_is false c e f = both f refl

pub is_pick : (b c : Bool) → (b ≡ true → c ≡ true) → pick b c true ≡ true
is_pick true c h = h refl
is_pick false c h = refl

-- ---- how often it holds

none_count : (n : ℕ) (q : ℕ → Bool) → count_to n q ≡ 0 → (i : ℕ) → i < n → q i ≡ false
none_count n q e i h = go (q i) refl (sum_part n i (λ j. only (q j) 1) h)
  where
    go : (b : Bool) → q i ≡ b → only (q i) 1 ≤ count_to n q → q i ≡ false
    go true f l = let o : only (q i) 1 ≡ 1 = rw f in absurd (omega arith)
    go false f l = f

-- it holds at all
pub some_count : (n i : ℕ) (q : ℕ → Bool) → i < n → q i ≡ true → 0 < count_to n q
some_count n i q h e =
    let o : only (q i) 1 ≡ 1 = rw e in
    omega (arith, sum_part n i (λ j. only (q j) 1) h)

-- an index at which it holds, so the first such index
pub first_below : (n i : ℕ) (q : ℕ → Bool) → i < n → q i ≡ true → first_to n q < n
first_below n i q h e = count_some n q (some_count n i q h e)

-- it holds once: at i, and nowhere else
pub record Once (n : ℕ) (q : ℕ → Bool) (i : ℕ) : Type 0 where
  pub below : i < n
  pub holds : q i ≡ true
  pub alone : (j : ℕ) → j < n → q j ≡ true → j ≡ i

pub first_once : (n i : ℕ) (q : ℕ → Bool) → Once n q i → first_to n q ≡ i
first_once n i q o =
    first_by n q i (record { upto = omega (arith, o.below); clear = λ j h. go j h (q j) refl; found = λ h. o.holds })
  where
    go : (j : ℕ) → j < i → (b : Bool) → q j ≡ b → q j ≡ false
    go j h true e = absurd (omega (arith, o.alone j (omega (arith, o.below)) e))
    go j h false e = e

pub count_once : (n i : ℕ) (q : ℕ → Bool) → Once n q i → count_to n q ≡ 1
unfolding sum_to
count_once zero i q o = absurd (not-suc-le-zero o.below)
count_once (suc n) i q o = go (ℕ_discrete i n) (count_once n i q)
  where
    rest : (b : Bool) → q n ≡ b → (i ≡ n → ⊥) → only (q n) 1 ≡ 0
    rest true e d = absurd (d (sym (o.alone n (le_refl (suc n)) e)))
    rest false e d = rw e

    before : (j : ℕ) → j < n → i ≡ n → (b : Bool) → q j ≡ b → q j ≡ false
    before j h d true e = absurd (omega (arith, o.alone j (omega arith) e))
    before j h d false e = e

    go : Dec (i ≡ n) → (Once n q i → count_to n q ≡ 1) → count_to n q + only (q n) 1 ≡ 1
    go (yes d) ih =
        let f : q n ≡ true = rw (← d) o.holds in
        let l : only (q n) 1 ≡ 1 = rw f in
        omega (arith, count_none n q (λ j h. before j h d (q j) refl))
    go (no d) ih =
        omega (arith, rest (q n) refl d, ih (record { below = omega (arith, o.below); holds = o.holds; alone = λ j h. o.alone j (omega arith) }))

pub once_count : (n : ℕ) (q : ℕ → Bool) → count_to n q ≡ 1 → (i : ℕ) × Once n q i
unfolding sum_to
once_count zero q e = absurd (omega arith)
once_count (suc n) q e = go (q n) refl (once_count n q)
  where
    last : (b : Bool) → q n ≡ b → count_to n q + only b 1 ≡ 1
    last b f = rw (← f) e

    alone : (j : ℕ) → count_to n q ≡ 0 → q j ≡ true → j < suc n → Dec (j ≡ n) → j ≡ n
    alone j z f h (yes d) = d
    alone j z f h (no d) = both f (none_count n q z j (omega arith))

    wider : (i j : ℕ) → Once n q i → q n ≡ false → q j ≡ true → j < suc n → Dec (j ≡ n) → j ≡ i
    wider i j o f t h (yes d) = both t (rw d f)
    wider i j o f t h (no d) = o.alone j (omega arith) t

    go : (b : Bool) → q n ≡ b → (count_to n q ≡ 1 → (i : ℕ) × Once n q i) → (i : ℕ) × Once (suc n) q i
    go true f ih =
        let z : count_to n q ≡ 0 = omega (arith, last true f) in
        (n, record { below = le_refl (suc n); holds = f; alone = λ j h t. alone j z t h (ℕ_discrete j n) })
    go false f ih =
        let o = ih (omega (arith, last false f)) in
        (o.0, record { below = omega (arith, o.1.below); holds = o.1.holds; alone = λ j h t. wider o.0 j o.1 f t h (ℕ_discrete j n) })
