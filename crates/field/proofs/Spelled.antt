-- The meaning said twice (specs/Spelling.antt) agrees: a count reads as v exactly if it states v, a time exactly if what it spells is rounded to v.
-- Assumes nothing.
use Prim.Native.Nat.{ℕ, ◌+◌, ◌-◌, ◌*◌, ◌^◌, ◌≤◌}
use mathlib.Core.Path.{◌≡◌, refl, sym, ap, ◌∙◌}
use mathlib.Core.Bool.{Bool, true, false}
use mathlib.Core.List.{List, [], ◌∷◌, ◌++◌, append-nil, append_assoc}
use native.Mathlib.Omega.{arith}
use native.Mathlib.Nat.{pow-succ', mul_assoc, add-mul}
use lib.ListN.{length, length-append}
use lib.Seq.{drop-length, drop-append_seam, drop-append-add}
use Rattle.basics.specs.Choice.{pick}
use Rattle.basics.proofs.ChoiceLaws.{within_in, within_true}
use Rattle.field.specs.declared.Rounding.{Rounding}
use Rattle.field.specs.Number.{reads_as, is_digit, digits, number, first, ends, nanos, rounded, fraction, time_field, count_field}
use Rattle.field.specs.Spelling.{Digits, none, one, value_of, DigitsTo, Time, Spells, whole, pointed, StatesTime, StatesCount}
use Rattle.field.proofs.DigitLaws.{alike, padded_number}
use Rattle.field.proofs.RoundingLaws.{rounded_to, to_rounded}
use Rattle.field.proofs.FirstField.{digit_in, first_none, count_first, time_first}
use Rattle.field.proofs.ReadAs.{AllDigits, count_read, TimeRead, read_whole, read_pointed, time_read}

-- ---- the number

number_value : (a : ℕ) (w : List ℕ) → number a w ≡ a * 10 ^ length w + value_of w
unfolding value_of
number_value a [] = omega arith
number_value a (d ∷ w) = number_value (a * 10 + (d - 48)) w ∙ rw (pow-succ' 10 (length w), add-mul (a * 10) (d - 48) (10 ^ length w), mul_assoc a 10 (10 ^ length w)) (omega arith)

pub value_number : (w : List ℕ) → number 0 w ≡ value_of w
value_number w = number_value 0 w ∙ omega arith

-- ---- digits

pub digits_are : (s : List ℕ) → Digits (digits s)
digits_are [] = none
digits_are (b ∷ s) = go (is_digit b) refl (digits_are s)
  where
    go : (t : Bool) → is_digit b ≡ t → Digits (digits s) → Digits (pick t (b ∷ digits s) [])
    go true e ih = let h = within_true 48 57 b e in one h.0 h.1 ih
    go false e ih = none

pub digits_all : (w z : List ℕ) → Digits w → digits z ≡ [] → digits (w ++ z) ≡ w
digits_all [] z none e = e
digits_all (b ∷ w) z (one l h r) e = rw (within_in 48 57 b l h, digits_all w z r e)

pub digits_whole : (w : List ℕ) → Digits w → digits w ≡ w
digits_whole w d = sym (ap digits (append-nil w)) ∙ digits_all w [] d refl

digits_first : (w z : List ℕ) → Digits w → first (w ++ z) ≡ w ++ first z
digits_first [] z none = refl
digits_first (b ∷ w) z (one l h r) = rw (digit_in b (within_in 48 57 b l h), digits_first w z r)

digits_to : (k : ℕ) (s : List ℕ) → AllDigits k s → DigitsTo k (digits s)
digits_to k s a = record { digits = digits_are s; some = a.some; few = a.few }

-- ---- what reads as v states v

pub count_states : (s : List ℕ) (v n : ℕ) → count_field s ≡ reads_as v n → StatesCount (first s) v
count_states s v n e =
    let r = count_read s v n e in
    rw r.0.all (record { digits = digits_to 4 s r.0; value = sym (alike r.1).0 ∙ value_number (digits s) })

-- w states a time that is held as v
pub record StatesHeld (way : Rounding) (w : List ℕ) (v : ℕ) : Type 0 where
  pub typed : ℕ
  pub states : StatesTime way w (record { typed = typed; held = v })

pub time_states : (way : Rounding) (s : List ℕ) (v n : ℕ) → time_field way s ≡ reads_as v n → StatesHeld way (first s) v
time_states way s v n e = go (time_read way s v n e)
  where
    -- the nanoseconds that are read
    held : (ns : ℕ) → v ≡ rounded way ns → Spells (first s) ns → StatesHeld way (first s) v
    held ns q t = record { typed = ns; states = record { spells = t; rounds = rw q (rounded_to way ns) } }

    go : TimeRead way s v n → StatesHeld way (first s) v
    go (read_whole a z) =
        let q : nanos (number 0 (digits s)) [] ≡ value_of (digits s) * 1_000_000 = omega (arith, value_number (digits s)) in
        held (nanos (number 0 (digits s)) []) (sym (alike z).0) (rw a.all (whole (digits_to 5 s a) q))
    go (read_pointed {f} b a r z) =
        let q : nanos (number 0 (digits s)) (digits f) ≡ value_of (digits s) * 1_000_000 + value_of (digits f) * 10 ^ (6 - length (digits f)) =
        cc (padded_number (number 0 (digits s)) (digits f) r.few, value_number (digits s), value_number (digits f)) in
        held (nanos (number 0 (digits s)) (digits f)) (sym (alike z).0) (rw a (pointed (record { digits = digits_are s; some = b.0; few = b.1 }) (digits_to 6 f r) q))

-- ---- what states v reads as v

count_of : (w : List ℕ) (v : ℕ) → StatesCount w v → count_field w ≡ reads_as v (length w)
unfolding count_field
count_of w v c =
    let d = c.digits in
    rw (digits_whole w d.digits, drop-length w, within_in 1 4 (length w) d.some d.few, value_number w, c.value)

pub states_count : (s : List ℕ) (v : ℕ) → StatesCount (first s) v → count_field s ≡ reads_as v (length (first s))
states_count s v c = sym (count_first s) ∙ count_of (first s) v c

fraction_of : (way : Rounding) (u at : ℕ) (f : List ℕ) → DigitsTo 6 f → fraction way u at f ≡ reads_as (rounded way (nanos u f)) (at + length f)
unfolding fraction
fraction_of way u at f d = rw (digits_whole f d.digits, drop-length f, within_in 1 6 (length f) d.some d.few)

time_of_lem : (way : Rounding) (w : List ℕ) (ns : ℕ) → Spells w ns → time_field way w ≡ reads_as (rounded way ns) (length w)
unfolding time_field
time_of_lem way w ns (whole d e) =
    let q : nanos (value_of w) [] ≡ ns = padded_number (value_of w) [] (omega arith) ∙ omega arith in
    rw (digits_whole w d.digits, drop-length w, within_in 1 5 (length w) d.some d.few, value_number w, q)
time_of_lem way _ ns (pointed {w} {f} d g e) =
    rw (digits_all w (46 ∷ f) d.digits refl, drop-append_seam w (46 ∷ f), drop-append-add w (46 ∷ f) 1, within_in 1 5 (length w) d.some d.few, fraction_of way (number 0 w) (length w + 1) f g)
    (rw (padded_number (number 0 w) f g.few, value_number w, value_number f, ← e, length-append w (46 ∷ f))
    (ap (reads_as (rounded way ns)) (omega arith)))

pub states_time : (way : Rounding) (s : List ℕ) (x : Time) → StatesTime way (first s) x → time_field way s ≡ reads_as x.held (length (first s))
states_time way s x t =
    sym (time_first way s) ∙ time_of_lem way (first s) x.typed t.spells ∙ ap (λ (v : ℕ). reads_as v (length (first s))) (to_rounded way x.typed x.held t.rounds)

-- ---- a field that is joined to a text

digits_alone : (w z : List ℕ) → Digits w → ends z ≡ true → first (w ++ z) ≡ w
digits_alone w z d e = digits_first w z d ∙ rw (first_none z e) (append-nil w)

pub no_apart_count : (w : List ℕ) (v : ℕ) → StatesCount w v → (z : List ℕ) → ends z ≡ true → first (w ++ z) ≡ w
no_apart_count w v c z e = digits_alone w z c.digits.digits e

pub no_apart_time : (w : List ℕ) (ns : ℕ) → Spells w ns → (z : List ℕ) → ends z ≡ true → first (w ++ z) ≡ w
no_apart_time w ns (whole d q) z e = digits_alone w z d.digits e
no_apart_time _ ns (pointed {w} {f} d g q) z e =
    rw (append_assoc w (46 ∷ f) z, digits_first w (46 ∷ (f ++ z)) d.digits, digits_alone f z g.digits e)

pub some_count : (w : List ℕ) (v : ℕ) → StatesCount w v → 1 ≤ length w
some_count w v c = c.digits.some

pub some_time : (w : List ℕ) (ns : ℕ) → Spells w ns → 1 ≤ length w
some_time w ns (whole d q) = d.some
some_time _ ns (pointed {w} {f} d g q) = omega (arith, length-append w (46 ∷ f))
