-- What a task's jobs run in a window is at most its workload.
-- Assumes nothing.
use Prim.Native.Nat.{ℕ, zero, suc, ◌+◌, ◌-◌, ◌*◌, ◌≤◌, ◌<◌, zero-le}
use mathlib.Core.Path.{◌≡◌, refl, sym, subst}
use mathlib.Core.Bool.{Bool, true, false}
use native.Mathlib.Nat.{not-suc-le-zero}
use native.Mathlib.Decide.{dec_lt, ℕ_discrete}
use native.Mathlib.Omega.{arith}
use Rattle.basics.specs.Choice.{only}
use Rattle.basics.specs.Over.{sum_to, count_to}
use Rattle.basics.proofs.ChoiceLaws.{only_below}
use Rattle.basics.proofs.SumLaws.{sum_bound}
use Rattle.basics.proofs.CountLaws.{sum_swap, count_alone}
use Rattle.theory.specs.Work.{jobs, uncapped, workload}
use Rattle.windows.specs.Sporadic.{Sporadic, served}
use Rattle.windows.proofs.PeriodLaws.{Portions, portions_sum}

-- ---- how often a test holds at the instants A, .., A + t − 1

unfoldable pub hits : (ℕ → Bool) → ℕ → ℕ → ℕ
hits p A t = sum_to t (λ s. only (p (A + s)) 1)

hits_window : (p : ℕ → Bool) (A t : ℕ) → hits p A t ≤ t
unfolding hits
hits_window p A t = omega (arith, sum_bound t 1 (λ s. only (p (A + s)) 1) (λ s h. only_below (p (A + s)) 1))

-- with what came before the window, all up to its end
pub hits_all : (p : ℕ → Bool) (A t : ℕ) → count_to A p + hits p A t ≡ count_to (A + t) p
unfolding hits sum_to
hits_all p A zero = let z : A + 0 ≡ A = omega arith in rw z (omega arith)
hits_all p A (suc t) = let z : A + suc t ≡ suc (A + t) = omega arith in rw z (omega (arith, hits_all p A t))

-- never before r
hits_after : (p : ℕ → Bool) (A t r : ℕ) → ((s : ℕ) → s < A + t → p s ≡ true → r ≤ s) → hits p A t ≤ A + t - r
unfolding hits sum_to
hits_after p A zero r h = zero-le
hits_after p A (suc t) r h = go (p (A + t)) refl (hits_after p A t r (λ s l. h s (omega arith)))
  where
    go : (b : Bool) → p (A + t) ≡ b → hits p A t ≤ A + t - r → hits p A t + only b 1 ≤ A + suc t - r
    go true e i = omega (arith, h (A + t) (omega arith) e)
    go false e i = omega arith

-- never at e or later
hits_before : (p : ℕ → Bool) (A t e : ℕ) → ((s : ℕ) → s < A + t → p s ≡ true → s < e) → hits p A t ≤ e - A
unfolding hits sum_to
hits_before p A zero e h = zero-le
hits_before p A (suc t) e h = go (p (A + t)) refl (hits_before p A t e (λ s l. h s (omega arith)))
  where
    go : (b : Bool) → p (A + t) ≡ b → hits p A t ≤ e - A → hits p A t + only b 1 ≤ e - A
    go true f i = omega (arith, h (A + t) (omega arith) f, hits_window p A t)
    go false f i = omega arith

-- ---- at most one job of a task at an instant

later : (T : ℕ) (r : ℕ → ℕ) → ((j : ℕ) → r j + T ≤ r (suc j)) → (n j : ℕ) → j < n → r j + T ≤ r n
later T r a zero j h = absurd (not-suc-le-zero h)
later T r a (suc n) j h = go (ℕ_discrete j n) (λ l. later T r a n j l)
  where
    go : Dec (j ≡ n) → (j < n → r j + T ≤ r n) → r j + T ≤ r (suc n)
    go (yes e) i = rw e (a n)
    go (no d) i = omega (arith, i (omega arith), a n)

module _ (T D x E : ℕ) (r : ℕ → ℕ) (ticks : ℕ → ℕ → Bool) (c : Sporadic T D x E r ticks) where
  alone : (s : ℕ) → s < E → D ≤ T → (K : ℕ) → count_to K (ticks s) ≤ 1
  alone s l h K = count_alone K (ticks s) (λ i j m n e f. same i j e f (dec_lt i j) (dec_lt j i))
    where
      same : (i j : ℕ) → ticks s i ≡ true → ticks s j ≡ true → Dec (i < j) → Dec (j < i) → i ≡ j
      same i j e f (yes d) x = absurd (omega (arith, c.released s j l f, c.in_time s i l e, later T r c.apart j i d))
      same i j e f (no d) (yes x) = absurd (omega (arith, c.released s i l e, c.in_time s j l f, later T r c.apart i j x))
      same i j e f (no d) (no x) = omega arith

-- ---- the workload

pub served_most : (T D x A t : ℕ) (r : ℕ → ℕ) (ticks : ℕ → ℕ → Bool) → 0 < T → x ≤ D → D ≤ T → Sporadic T D x (A + t) r ticks
    → (K : ℕ) → served ticks K A t ≤ workload T D t x
unfolding workload uncapped sum_to hits
served_most T D x A zero r ticks pos hx hD c K = zero-le
served_most T D x A (suc t) r ticks pos hx hD c K =
    let y : ℕ → ℕ = λ j. hits (λ s. ticks s j) A (suc t) in
    let f : Portions T D x A (suc t) r y = record {
      apart = c.apart;
      most = λ j. omega (arith, hits_all (λ s. ticks s j) A (suc t), c.most j);
      window = λ j. hits_window (λ s. ticks s j) A (suc t);
      before = λ j. hits_after (λ s. ticks s j) A (suc t) (r j) (λ s l e. c.released s j l e);
      after = λ j. hits_before (λ s. ticks s j) A (suc t) (r j + D) (λ s l e. c.in_time s j l e);
    } in
    let u : served ticks K A (suc t) ≤ jobs T x (suc t + D - x) =
    subst (λ (w : ℕ). w ≤ jobs T x (suc t + D - x)) (sym (sum_swap (suc t) K (λ s j. only (ticks (A + s) j) 1)))
    (portions_sum T D x A (suc t) pos hx hD K r y f) in
    let v : served ticks K A (suc t) ≤ suc t * 1 =
    sum_bound (suc t) 1 (λ s. count_to K (ticks (A + s))) (λ s l. alone T D x (A + suc t) r ticks c (A + s) (omega arith) hD K) in
    omega arith
