-- Laws of the first fault.
-- Assumes nothing.
use mathlib.Core.Path.{◌≡◌, refl, ◌∙◌, ap}
use mathlib.Core.Logic.{⊎_elim}
use Prim.Native.Nat.{ℕ, zero, suc, ◌+◌, ◌-◌, ◌<◌}
use native.Mathlib.Omega.{arith}
use native.Mathlib.Numerals.{add-one}
use native.Mathlib.Nat.{add-zero, add-suc, le_refl, not-suc-le-zero, eq-or-lt_of_le}
use Rattle.table.specs.declared.Refusal.{Refusal}
use Rattle.table.specs.Faults.{Checked}
use Rattle.std.specs.Prelude.{Ok, Err}
use Rattle.table.specs.Faults.{◌then◌, first_fault}

-- one index more
pub first_more : (k : ℕ) (f : ℕ → Checked) → first_fault (k + 1) f ≡ (first_fault k f then f k)
unfolding first_fault
first_more k f = rw add-one

-- a fault that was found stays the first
stays_on : (m k : ℕ) (f : ℕ → Checked) (r : Refusal) → first_fault k f ≡ Err r → first_fault (k + m) f ≡ Err r
unfolding first_fault
stays_on zero k f r e = rw add-zero e
stays_on (suc m) k f r e = rw (add-suc, stays_on m k f r e)

-- the fault at k is the first of n, where there is none below it
pub first_at : (n k : ℕ) (f : ℕ → Checked) (r : Refusal) → k < n → first_fault k f ≡ Ok tt → f k ≡ Err r → first_fault n f ≡ Err r
first_at n k f r h e g =
    let s : n ≡ k + 1 + (n - (k + 1)) = omega arith in
    ap (λ (m : ℕ). first_fault m f) s ∙ stays_on (n - (k + 1)) (k + 1) f r (rw (first_more, e) g)

-- nothing is found where there is nothing, and only there
pub first_fine : (n : ℕ) (f : ℕ → Checked) → ((k : ℕ) → k < n → f k ≡ Ok tt) → first_fault n f ≡ Ok tt
unfolding first_fault
first_fine zero f each = refl
first_fine (suc n) f each = rw (first_fine n f (λ k l. each k (omega arith))) (each n (le_refl (suc n)))

pub then_fine : (a b : Checked) → (a then b) ≡ Ok tt → (a ≡ Ok tt) × (b ≡ Ok tt)
then_fine (Ok _) b e = (refl, e)
then_fine (Err r) b e = (cc, cc)

pub each_fine : (n : ℕ) (f : ℕ → Checked) → first_fault n f ≡ Ok tt → (k : ℕ) → k < n → f k ≡ Ok tt
unfolding first_fault
each_fine zero f e k h = absurd (not-suc-le-zero h)
each_fine (suc n) f e k h =
    let p = then_fine (first_fault n f) (f n) e in
    ⊎_elim (λ q. rw q p.1) (λ l. each_fine n f p.0 k l) (eq-or-lt_of_le {n = k} {m = n} (omega arith))

-- the same checks find the same first fault
pub first_same : (n : ℕ) (f g : ℕ → Checked) → ((k : ℕ) → k < n → f k ≡ g k) → first_fault n f ≡ first_fault n g
unfolding first_fault
first_same zero f g each = refl
first_same (suc n) f g each = rw (first_same n f g (λ k l. each k (omega arith)), each n (le_refl (suc n)))
