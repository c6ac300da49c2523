-- The laws of the first index below n.
-- Assumes nothing.
use Prim.Native.Nat.{ℕ, zero, suc, ◌+◌, ◌≤◌, ◌<◌}
use mathlib.Core.Path.{◌≡◌, refl, ap, ◌∙◌}
use mathlib.Core.Bool.{Bool, true, false}
use native.Mathlib.Nat.{le_refl, not-suc-le-zero}
use native.Mathlib.Numerals.{add-one}
use native.Mathlib.Decide.{ℕ_discrete, dec_lt}
use native.Mathlib.Omega.{arith}
use borrow.Author.Tests.{lt-ltb, le-ltb}
use lib.Dec.{ltb}
use Rattle.basics.specs.Choice.{pick}
use Rattle.basics.specs.Over.{first_to}

pub first_none : (p : ℕ → Bool) → first_to 0 p ≡ 0
unfolding first_to
first_none p = refl

next : (f n : ℕ) (b : Bool) → f ≡ n → pick (ltb f n) f (pick b n (suc n)) ≡ pick b n (suc n)
next f n b e = ap (λ (t : Bool). pick t f (pick b n (suc n))) (le-ltb f n (omega arith))

-- nothing found so far, nor here
pub first_more : (n : ℕ) (p : ℕ → Bool) → first_to n p ≡ n → p n ≡ false → first_to (n + 1) p ≡ n + 1
unfolding first_to
first_more n p e f = rw add-one (next (first_to n p) n (p n) e ∙ ap (λ (b : Bool). pick b n (suc n)) f)

here : (n : ℕ) (p : ℕ → Bool) → first_to n p ≡ n → p n ≡ true → first_to (suc n) p ≡ n
unfolding first_to
here n p e f = next (first_to n p) n (p n) e ∙ ap (λ (b : Bool). pick b n (suc n)) f

earlier : (n l : ℕ) (p : ℕ → Bool) → l < n → first_to n p ≡ l → first_to (suc n) p ≡ l
unfolding first_to
earlier n l p h e = ap (λ (t : Bool). pick t (first_to n p) (pick (p n) n (suc n))) (lt-ltb (first_to n p) n (omega arith)) ∙ e

-- what the first index below n is: nothing is found before it, and it is found itself if it is below n
pub record First (n : ℕ) (p : ℕ → Bool) (f : ℕ) : Type 0 where
  pub upto : f ≤ n
  pub clear : (j : ℕ) → j < f → p j ≡ false
  pub found : f < n → p f ≡ true

clear_more : (n j : ℕ) (p : ℕ → Bool) → ((j : ℕ) → j < n → p j ≡ false) → p n ≡ false → j < suc n → Dec (j ≡ n) → p j ≡ false
clear_more n j p h e k (yes d) = rw d e
clear_more n j p h e k (no d) = h j (omega arith)

first_step : (n f : ℕ) (p : ℕ → Bool) → first_to n p ≡ f → First n p f → Dec (f ≡ n) → (b : Bool) → p n ≡ b
    → First (suc n) p (first_to (suc n) p)
first_step n f p e w (no d) b q =
    let l : f < n = omega (arith, w.upto) in
    rw (earlier n f p l e) (record { upto = omega arith; clear = w.clear; found = λ _. w.found l })
first_step n f p e w (yes d) true q =
    rw (here n p (e ∙ d) q) (record { upto = omega arith; clear = λ j k. w.clear j (omega arith); found = λ _. q })
first_step n f p e w (yes d) false q =
    rw (← add-one, first_more n p (e ∙ d) q, add-one)
    (record {
      upto = le_refl (suc n);
      clear = λ j k. clear_more n j p (λ j l. w.clear j (omega arith)) q k (ℕ_discrete j n);
      found = λ k. absurd (omega (arith, k));
    })

pub first_is : (n : ℕ) (p : ℕ → Bool) → First n p (first_to n p)
unfolding first_to
first_is zero p = record { upto = le_refl 0; clear = λ j k. absurd (not-suc-le-zero k); found = λ k. absurd (not-suc-le-zero k) }
first_is (suc n) p = first_step n (first_to n p) p refl (first_is n p) (ℕ_discrete (first_to n p) n) (p n) refl

-- and nothing else is
pub first_by : (n : ℕ) (p : ℕ → Bool) (f : ℕ) → First n p f → first_to n p ≡ f
first_by n p f w = go (dec_lt f (first_to n p)) (dec_lt (first_to n p) f)
  where
    v : First n p (first_to n p)
    v = first_is n p

    go : Dec (f < first_to n p) → Dec (first_to n p < f) → first_to n p ≡ f
    go (yes d) e = let a = v.clear f d in let b = w.found (omega (arith, v.upto)) in let z : ◌≡◌ {A = ℕ} 0 1 = cc in absurd (omega arith)
    go (no d) (yes e) = let a = w.clear (first_to n p) e in let b = v.found (omega (arith, w.upto)) in let z : ◌≡◌ {A = ℕ} 0 1 = cc in absurd (omega arith)
    go (no d) (no e) = omega arith

-- nothing found so far, but here
pub first_here : (n k : ℕ) (p : ℕ → Bool) → k < n → first_to k p ≡ k → p k ≡ true → first_to n p ≡ k
first_here n k p h e f = first_by n p k (record { upto = omega arith; clear = (rw e at (first_is k p)).clear; found = λ _. f })

-- tests that agree below n
pub first_eq : (n : ℕ) (p q : ℕ → Bool) → ((k : ℕ) → k < n → p k ≡ q k) → first_to n p ≡ first_to n q
first_eq n p q each =
    let w = first_is n q in
    first_by n p (first_to n q) (record { upto = w.upto; clear = λ j h. each j (omega (arith, w.upto)) ∙ w.clear j h; found = λ h. each (first_to n q) h ∙ w.found h })
