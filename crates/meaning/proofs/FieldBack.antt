-- The text of a count and of a time states what it was written for, and is read back.
-- Assumes nothing.
use Prim.Native.Nat.{ℕ, zero, suc, ◌+◌, ◌-◌, ◌*◌, ◌/◌, ◌%◌, ◌^◌, ◌≤◌, ◌<◌}
use mathlib.Core.Path.{◌≡◌, refl, sym, ◌∙◌}
use mathlib.Core.Bool.{true}
use mathlib.Core.List.{List, [], ◌∷◌, ◌++◌}
use native.Mathlib.Omega.{arith}
use native.Mathlib.Nat.{pow-suc}
use lib.ListN.{length}
use lib.Dec.{lit≤}
use Rattle.field.specs.declared.Rounding.{Rounding}
use Rattle.field.specs.Number.{reads_as, number, ends, time_field, count_field}
use Rattle.field.specs.Spelling.{Digits, none, one, value_of, DigitsTo, Time, Spells, whole, StatesTime, StatesCount}
use Rattle.field.specs.Spelling
use Rattle.put.specs.Text.{digits_of, width, count_text, time_text}
use Rattle.field.proofs.DigitLaws.{number_append}
use Rattle.field.proofs.RoundingLaws.{whole_to}
use Rattle.field.proofs.Spelled.{value_number, states_count, states_time, no_apart_count, no_apart_time}
use Rattle.put.proofs.TextLaws.{width_least, width_few, width_enough, digits_length}
use Rattle.put.proofs.TimeLaws.{Trimmed, trimmed, time_plain, time_point}

-- ---- what is written states what it was written for

digits_join : {w z : List ℕ} → Digits w → Digits z → Digits (w ++ z)
digits_join none e = e
digits_join (one l h d) e = one l h (digits_join d e)

digits_made : (k n : ℕ) → Digits (digits_of k n)
digits_made zero n = none
digits_made (suc k) n = digits_join (digits_made k (n / 10)) (one (omega arith) (omega arith) none)

digits_number : (k n : ℕ) → n < 10 ^ k → number 0 (digits_of k n) ≡ n
digits_number zero n h = omega arith
digits_number (suc k) n h =
    let p = pow-suc 10 k in
    number_append 0 (digits_of k (n / 10)) ((48 + n % 10) ∷ []) ∙ omega (arith, digits_number k (n / 10) (omega arith))

digits_value : (k n : ℕ) → n < 10 ^ k → n ≡ value_of (digits_of k n)
digits_value k n h = sym (digits_number k n h) ∙ value_number (digits_of k n)

digits_to : (m k n : ℕ) → 1 ≤ k → k ≤ m → DigitsTo m (digits_of k n)
digits_to m k n l h =
    let e = digits_length k n in
    record { digits = digits_made k n; some = omega arith; few = omega arith }

count_value : (n : ℕ) → n < 10 ^ 20 → n ≡ value_of (count_text n)
unfolding count_text
count_value n h = digits_value (width n) n (width_enough n h)

count_to_lem : (m n : ℕ) → 1 ≤ m → n < 10 ^ m → DigitsTo m (count_text n)
unfolding count_text
count_to_lem m n l h = digits_to m (width n) n (width_least n) (width_few n m l h)

pub count_text_lem : (n : ℕ) → n ≤ 9_999 → StatesCount (count_text n) n
count_text_lem n h = record { digits = count_to_lem 4 n (lit≤ tt) (omega arith); value = count_value n (omega arith) }

-- a fraction of k digits, worth so many thousandths, in millionths
millionths : (k x y : ℕ) → k ≤ 3 → x ≡ y * 10 ^ (3 - k) → x * 1000 ≡ y * 10 ^ (6 - k)
millionths zero x y h e = omega arith
millionths (suc zero) x y h e = omega arith
millionths (suc (suc zero)) x y h e = omega arith
millionths (suc (suc (suc zero))) x y h e = omega arith
millionths (suc (suc (suc (suc k)))) x y h e = absurd (omega arith)

time_spells : (us : ℕ) → us ≤ 99_999_999 → Spells (time_text us) (us * 1000)
time_spells us h = let t = trimmed (us % 1000) (omega arith) in go t.0 t.1 t.2
  where
    q : DigitsTo 5 (count_text (us / 1000))
    q = count_to_lem 5 (us / 1000) (lit≤ tt) (omega arith)

    v : us / 1000 ≡ value_of (count_text (us / 1000))
    v = count_value (us / 1000) (omega arith)

    go : (k y : ℕ) → Trimmed (us % 1000) k y → Spells (time_text us) (us * 1000)
    go zero y t = rw (time_plain us zero y t.is refl) (whole {ns = us * 1000} q (omega (arith, v, t.small, t.worth)))
    go (suc k) y t =
        let n = digits_length (suc k) y in
        let m = millionths (suc k) (us % 1000) y t.few t.worth in
        rw (time_point us (suc k) y t.is (λ z. omega arith))
        (Spelling.pointed {ns = us * 1000} q (digits_to 6 (suc k) y (omega arith) (omega (arith, t.few))) (rw (n, ← digits_value (suc k) y t.small, ← v, ← m) (omega arith)))

-- a time typed to the microsecond
abbrev pub exactly : ℕ → Time
exactly us = record { typed = us * 1000; held = us }

pub time_text_lem : (way : Rounding) (us : ℕ) → us ≤ 99_999_999 → StatesTime way (time_text us) (exactly us)
time_text_lem way us h = record { spells = time_spells us h; rounds = whole_to way us }

-- ---- and is read back

pub count_back : (n : ℕ) (z : List ℕ) → n ≤ 9_999 → ends z ≡ true → count_field (count_text n ++ z) ≡ reads_as n (length (count_text n))
count_back n z h e =
    let t = count_text_lem n h in
    let f = no_apart_count (count_text n) n t z e in
    states_count (count_text n ++ z) n (rw f t) ∙ rw f

pub time_back : (way : Rounding) (us : ℕ) (z : List ℕ) → us ≤ 99_999_999 → ends z ≡ true → time_field way (time_text us ++ z) ≡ reads_as us (length (time_text us))
time_back way us z h e =
    let t = time_text_lem way us h in
    let f = no_apart_time (time_text us) (us * 1000) t.spells z e in
    states_time way (time_text us ++ z) (exactly us) (rw f t) ∙ rw f
