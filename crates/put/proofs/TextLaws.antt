-- Laws of widths and digits.
-- Assumes nothing.
use Prim.Native.Nat.{ℕ, zero, suc, ◌+◌, ◌-◌, ◌/◌, ◌%◌, ◌*◌, ◌^◌, ◌≤◌, ◌<◌}
use mathlib.Core.Path.{◌≡◌, refl, sym, ap, ◌∙◌}
use mathlib.Core.Bool.{Bool}
use mathlib.Core.List.{List, [], ◌∷◌, ◌++◌, append_assoc, append-nil}
use native.Mathlib.Nat.{pow-suc, pow-le-pow_right}
use native.Mathlib.Numerals.{add-one}
use native.Mathlib.Omega.{arith}
use native.Mathlib.Decide.{dec_lt}
use lib.ListN.{length, set, take, drop, length-append, length-drop, drop_of_length-le}
use lib.Seq.{length-take-le}
use lib.Dec.{ltb, lit≤, lit<}
use borrow.Author.Tests.{ltb-true, ltb-false, lt-ltb, le-ltb}
use Rattle.basics.specs.Over.{first_to}
use Rattle.basics.proofs.FirstIndexLaws.{First, first_is, first_none, first_more, first_here}
use Rattle.basics.proofs.FillLaws.{Filled}
use Rattle.put.specs.Text.{digits_of, width, count_text}

-- ---- how wide a number is

-- whether n is below 10 ^ (k + 1)
abbrev pub tens : ℕ → ℕ → Bool
tens n k = ltb n (10 ^ suc k)

found : (n : ℕ) → First 19 (tens n) (first_to 19 (tens n))
found n = first_is 19 (tens n)

pub width_least : (n : ℕ) → 1 ≤ width n
unfolding width
width_least n = omega arith

pub width_most : (n : ℕ) → width n ≤ 20
unfolding width
width_most n = omega (arith, (found n).upto)

-- a number of at most k digits is no wider
pub width_few : (n k : ℕ) → 1 ≤ k → n < 10 ^ k → width n ≤ k
unfolding width
width_few n zero l h = elim l [ ]
width_few n (suc k) l h = go (dec_lt k (first_to 19 (tens n)))
  where
    go : Dec (k < first_to 19 (tens n)) → suc (first_to 19 (tens n)) ≤ suc k
    go (yes d) = absurd (omega (arith, ltb-false n (10 ^ suc k) ((found n).clear k d)))
    go (no d) = omega arith

pub width_enough : (n : ℕ) → n < 10 ^ 20 → n < 10 ^ width n
unfolding width
width_enough n h = go (dec_lt (first_to 19 (tens n)) 19)
  where
    go : Dec (first_to 19 (tens n) < 19) → n < 10 ^ suc (first_to 19 (tens n))
    go (yes d) = ltb-true n (10 ^ suc (first_to 19 (tens n))) ((found n).found d)
    go (no d) = let e : first_to 19 (tens n) ≡ 19 = omega (arith, (found n).upto) in rw e h

-- n is below none of 10, .., 10 ^ k, and p is 10 ^ k
pub record Wider (n k p : ℕ) : Type 0 where
  pub power : p ≡ 10 ^ k
  pub clear : first_to k (tens n) ≡ k

pub wider_none : (n : ℕ) → Wider n 0 1
wider_none n = record { power = refl; clear = first_none (tens n) }

module _ {n k p : ℕ} (w : Wider n k p) where
  next : p * 10 ≡ 10 ^ suc k
  next = omega (arith, w.power, pow-suc 10 k)

  pub wider_more : p * 10 ≤ n → Wider n (k + 1) (p * 10)
  wider_more h = record { power = rw add-one next; clear = first_more k (tens n) w.clear (le-ltb n (10 ^ suc k) (omega (arith, next))) }

  pub wider_fits : k < 19 → p * 10 ≤ 10 ^ 19
  wider_fits h = omega (arith, next, pow-le-pow_right {n = 10} (lit< tt) {i = suc k} {j = 19} h)

  pub width_is : k < 19 → n < p * 10 → suc k ≡ width n
  unfolding width
  width_is h l = ap suc (sym (first_here 19 k (tens n) h w.clear (lt-ltb n (10 ^ suc k) (omega (arith, next)))))

  pub width_last : k ≡ 19 → 20 ≡ width n
  unfolding width
  width_last e = ap suc (sym (rw e at w.clear))

-- ---- digits

pub digits_length : (k n : ℕ) → length (digits_of k n) ≡ k
digits_length zero n = refl
digits_length (suc k) n = omega (arith, length-append (digits_of k (n / 10)) ((48 + n % 10) ∷ []), digits_length k (n / 10))

pub count_length : (n : ℕ) → length (count_text n) ≡ width n
unfolding count_text
count_length n = digits_length (width n) n

pub count_most : (n : ℕ) → length (count_text n) ≤ 20
count_most n = omega (arith, count_length n, width_most n)

-- a number of 32 bits
pub count_small : (n : ℕ) → n < 4_294_967_296 → length (count_text n) ≤ 10
count_small n h = omega (arith, count_length n, width_few n 10 (lit≤ tt) (omega arith))

-- a part of an output that is as long as the count is filled with its digits
pub count_part : (n : ℕ) {k : ℕ} {ys : List ℕ} → k ≡ width n → ys ≡ digits_of k n → ys ≡ count_text n
unfolding count_text
count_part n e q = rw e at q

pub count_filled : (n : ℕ) {o ys : List ℕ} {w : ℕ} → w ≡ width n → w ≤ length o → ys ≡ digits_of (length (take w o)) n → Filled o (ys ++ drop w o) (count_text n) w
count_filled n {o} {ys} {w} e h q =
    let l = length-take-le w o h in
    let d = count_part n (l ∙ e) q in
    record {
      holds = ap (λ (x : List ℕ). x ++ drop w o) d;
      long = count_length n ∙ sym e;
      kept = omega (arith, length-append ys (drop w o), length-drop w o, ap length d, count_length n);
    }

-- before what stands past an output there is nothing else
pub digits_all : (out : List ℕ) (n : ℕ) → digits_of (length out) n ++ drop (length out) out ≡ digits_of (length out) n
digits_all out n = rw (drop_of_length-le out {i = length out} (omega arith), append-nil)

-- a digit is put in front of those that are there
pub digit_put : (out : List ℕ) (rest i : ℕ) → 0 < i → i ≤ length out
    → digits_of (i - 1) (rest / 10) ++ drop (i - 1) (set out (i - 1) (48 + rest % 10)) ≡ digits_of i rest ++ drop i out
digit_put out rest zero h l = absurd (omega arith)
digit_put out rest (suc j) h l =
    let e : suc j - 1 ≡ j = omega arith in
    rw (e, drop_set out j (48 + rest % 10) l, append_assoc)
  where
    drop_set : (l : List ℕ) (j v : ℕ) → j < length l → drop j (set l j v) ≡ v ∷ drop (suc j) l
    drop_set [] j v h = absurd (omega arith)
    drop_set (x ∷ l) zero v h = refl
    drop_set (x ∷ l) (suc j) v h = drop_set l j v (omega arith)

pub digit_done : (out t : List ℕ) (rest i : ℕ) → i ≤ 0 → digits_of i rest ++ drop i out ≡ t → out ≡ t
digit_done out t rest zero h e = e
digit_done out t rest (suc i) h e = absurd (omega arith)
