-- Laws of digits, runs of digits and numbers, as the code meets them: at a place n of s, where `drop n s` is what is left.
-- Assumes nothing.
use Prim.Native.Nat.{ℕ, ◌+◌, ◌-◌, ◌*◌, ◌^◌, ◌≤◌, ◌<◌}
use mathlib.Core.Path.{◌≡◌, refl, sym, ap, ◌∙◌}
use mathlib.Core.Bool.{Bool, true, false}
use mathlib.Core.List.{List, [], ◌∷◌, ◌++◌}
use native.Mathlib.Omega.{arith}
use native.Mathlib.Numerals.{add-one}
use native.Mathlib.Nat.{pow-suc, pow-le-pow_right}
use Rattle.std.proofs.lemmas.Nat.{pow-add}
use Rattle.std.proofs.Math.Nat.{mul-lt-mul_of_pos_right}
use lib.ListN.{length, get_or, drop, drop_of_length-le}
use lib.Seq.{drop-cons}
use lib.Dec.{leb, lit<}
use borrow.Author.Tests.{le-leb, lt-leb, leb-true, leb-false}
use Rattle.std.specs.Prelude.{None}
use Rattle.std.proofs.lemmas.Option.{same_Some}
use Rattle.field.specs.declared.Field.{Field}
use Rattle.basics.specs.Choice.{pick}
use Rattle.field.specs.Number.{reads_as, is_digit, digits, number, nanos}
use Rattle.field.specs.Runs.{run_of}

-- ---- the digits from a place on

module _ (s : List ℕ) (n : ℕ) where
  pub digits_none : length s ≤ n → digits (drop n s) ≡ []
  digits_none h = rw (drop_of_length-le s h)

  pub digits_other : n < length s → is_digit (get_or s n 0) ≡ false → digits (drop n s) ≡ []
  digits_other h e = rw (drop-cons s n 0 h, e)

  pub digits_more : n < length s → is_digit (get_or s n 0) ≡ true → digits (drop n s) ≡ get_or s n 0 ∷ digits (drop (n + 1) s)
  digits_more h e = rw (drop-cons s n 0 h, e, add-one)

  -- the digits end at n: what was counted is all
  pub run_of_lem : (most v : ℕ) → n ≤ most → n + length (digits (drop n s)) ≡ length (digits s) → number v (digits (drop n s)) ≡ number 0 (digits s) → digits (drop n s) ≡ [] → reads_as v n ≡ run_of most s
  unfolding run_of
  run_of_lem most v h l e z =
      let l₁ : n ≡ length (digits s) = omega (arith, ap length z) in
      let e₁ : v ≡ number 0 (digits s) = ap (number v) (sym z) ∙ e in
      rw (← l₁, ← e₁, le-leb n most h)

  -- a digit too many
  pub run_long : (most : ℕ) → n ≡ most → n + length (digits (drop n s)) ≡ length (digits s) → n < length s → is_digit (get_or s n 0) ≡ true → None ≡ run_of most s
  unfolding run_of
  run_long most h l m e =
      rw (lt-leb (length (digits s)) most (omega (arith, ap length (digits_more m e))))

-- ten times a power of ten is the next one
pub ten : (n : ℕ) → 10 ^ (n + 1) ≡ 10 ^ n * 10
ten n = rw add-one (pow-suc 10 n)

-- a number of d digits, filled up to six
pub filled : (x d : ℕ) → d ≤ 6 → x < 10 ^ d → x * 10 ^ (6 - d) < 1_000_000
filled x d h l =
    let e : d + (6 - d) ≡ 6 = omega arith in
    let p : 0 < 10 ^ (6 - d) = pow-le-pow_right {n = 10} (lit< tt) {i = 0} {j = 6 - d} (omega arith) in
    omega (arith, mul-lt-mul_of_pos_right l p, pow-add 10 d (6 - d), ap (λ k. 10 ^ k) e)

-- with fewer than nine digits there is room for another
pub room : (n : ℕ) → n ≤ 8 → 10 ^ n ≤ 100_000_000
room n h = pow-le-pow_right (omega arith) h

-- ---- what a run says of the digits

-- two fields that read alike
pub alike : {v n u m : ℕ} → reads_as v n ≡ reads_as u m → (v ≡ u) × (n ≡ m)
alike e = let f = same_Some _ _ e in (ap (λ (x : Field). x.value) f, ap (λ (x : Field). x.width) f)

pub pick_same : {A : Type 0} {a : A} (b : Bool) → a ≡ pick b a a
pick_same true = refl
pick_same false = refl

pub run_is : (most : ℕ) (s : List ℕ) (n v : ℕ) → reads_as v n ≡ run_of most s → (n ≡ length (digits s)) × (v ≡ number 0 (digits s)) × (length (digits s) ≤ most)
unfolding run_of
run_is most s n v e = go (leb (length (digits s)) most) refl e
  where
    go : (b : Bool) → leb (length (digits s)) most ≡ b → reads_as v n ≡ pick b (reads_as (number 0 (digits s)) (length (digits s))) None
        → (n ≡ length (digits s)) × (v ≡ number 0 (digits s)) × (length (digits s) ≤ most)
    go true t q = let a = alike q in (a.1, a.0, leb-true _ _ t)
    go false t q = let z : ◌≡◌ {A = ℕ} 0 1 = cc in absurd (omega arith)

pub run_is_long : (most : ℕ) (s : List ℕ) → None ≡ run_of most s → most < length (digits s)
unfolding run_of
run_is_long most s e = go (leb (length (digits s)) most) refl e
  where
    go : (b : Bool) → leb (length (digits s)) most ≡ b → None ≡ pick b (reads_as (number 0 (digits s)) (length (digits s))) None → most < length (digits s)
    go true t q = let z : ◌≡◌ {A = ℕ} 0 1 = cc in absurd (omega arith)
    go false t q = leb-false _ _ t

-- ---- numbers

pub number_append : (a : ℕ) (xs ys : List ℕ) → number a (xs ++ ys) ≡ number (number a xs) ys
number_append a [] ys = refl
number_append a (x ∷ xs) ys = number_append (a * 10 + (x - 48)) xs ys

-- a fraction of at most six digits, padded, after the whole part a
pub padded_number : (a : ℕ) (f : List ℕ) → length f ≤ 6 → nanos a f ≡ a * 1_000_000 + number 0 f * 10 ^ (6 - length f)
padded_number a [] h = omega arith
padded_number a (x ∷ []) h = omega arith
padded_number a (x ∷ y ∷ []) h = omega arith
padded_number a (x ∷ y ∷ z ∷ []) h = omega arith
padded_number a (x ∷ y ∷ z ∷ u ∷ []) h = omega arith
padded_number a (x ∷ y ∷ z ∷ u ∷ v ∷ []) h = omega arith
padded_number a (x ∷ y ∷ z ∷ u ∷ v ∷ w ∷ []) h = omega arith
padded_number a (x ∷ y ∷ z ∷ u ∷ v ∷ w ∷ t ∷ f) h = absurd (omega arith)

-- no fraction, in microseconds and then in nanoseconds
pub whole_nanos : (v : ℕ) → nanos v [] ≡ v * 1000 * 1000
whole_nanos v = omega arith
