-- A field with at most three decimals reads as document 01 has it, whichever way is told; one with more than six is badly formed.
-- Assumes nothing.
use Prim.Native.Nat.{ℕ, zero, suc, ◌+◌, ◌*◌, ◌≤◌, ◌<◌}
use mathlib.Core.Path.{◌≡◌, refl, sym, ap, ◌∙◌}
use mathlib.Core.Bool.{true}
use mathlib.Core.List.{List, [], ◌∷◌, ◌++◌, append-nil}
use native.Mathlib.Omega.{arith}
use lib.ListN.{length, drop, length-append}
use lib.Seq.{drop-drop}
use borrow.Author.Tests.{ne_eqb}
use Rattle.std.specs.Prelude.{Option, Some, None}
use Rattle.basics.specs.Choice.{pick, within}
use Rattle.basics.proofs.ChoiceLaws.{pick_when, within_in}
use Rattle.field.specs.declared.Field.{Field}
use Rattle.field.specs.declared.Rounding.{Rounding}
use Rattle.field.specs.Number.{reads_as, digits, number, first, ends, point, nanos, rounded, fraction, time_field}
use Rattle.field.specs.Spelling.{Digits, none, one}
use Rattle.field.specs.ThreeDecimals.{short_micros, short_fraction, short_time, decimals}
use Rattle.field.proofs.RoundingLaws.{rounded_whole}
use Rattle.field.proofs.FirstField.{first_point, first_split}
use Rattle.field.proofs.ReadAs.{TimeRead, read_whole, read_pointed, time_read}
use Rattle.field.proofs.Spelled.{digits_are}

-- at most three digits, padded to six
short_nanos : (v : ℕ) (f : List ℕ) → length f ≤ 3 → nanos v f ≡ short_micros v f * 1000
short_nanos v [] h = omega arith
short_nanos v (x ∷ []) h = omega arith
short_nanos v (x ∷ y ∷ []) h = omega arith
short_nanos v (x ∷ y ∷ z ∷ []) h = omega arith
short_nanos v (x ∷ y ∷ z ∷ u ∷ f) h = absurd (omega arith)

short_rounded : (way : Rounding) (v : ℕ) (f : List ℕ) → length f ≤ 3 → rounded way (nanos v f) ≡ short_micros v f
short_rounded way v f h = ap (rounded way) (short_nanos v f h) ∙ rounded_whole way (short_micros v f)

short_within : (n : ℕ) → n ≤ 3 → within 1 6 n ≡ within 1 3 n
short_within zero h = refl
short_within (suc n) h = within_in 1 6 (suc n) (omega arith) (omega arith) ∙ sym (within_in 1 3 (suc n) (omega arith) h)

fraction_before : (way : Rounding) (v at : ℕ) (s : List ℕ) → length (digits s) ≤ 3 → fraction way v at s ≡ short_fraction v at s
unfolding fraction short_fraction
fraction_before way v at s h = rw (short_within (length (digits s)) h, short_rounded way v (digits s) h)

-- ---- the decimals of a field

-- digits before the point do not count
decimals_past : (w z : List ℕ) → Digits w → decimals (w ++ z) ≡ decimals z
decimals_past [] z none = refl
decimals_past (b ∷ w) z (one l h r) =
    rw (ne_eqb b 46 (λ q. omega arith)) (decimals_past w z r)

digits_in_first : (s : List ℕ) → length (digits s) ≤ length (first s)
digits_in_first s = omega (arith, ap length (first_split s), length-append (digits s) (first (drop (length (digits s)) s)))

-- the digits after the point are among them
few_decimals : (s : List ℕ) → let n = length (digits s) in
    point (drop n s) ≡ true → decimals (first s) ≤ 3 → length (digits (drop (n + 1) s)) ≤ 3
few_decimals s p h =
    let n = length (digits s) in
    let e = first_split s ∙ ap (λ (x : List ℕ). digits s ++ x) (first_point (drop n s) p ∙ ap (λ (x : List ℕ). 46 ∷ first x) (drop-drop 1 n s)) in
    let d = ap decimals e ∙ decimals_past (digits s) (46 ∷ first (drop (n + 1) s)) (digits_are s) in
    omega (arith, digits_in_first (drop (n + 1) s))

pub time_before : (way : Rounding) (s : List ℕ) → decimals (first s) ≤ 3 → time_field way s ≡ short_time s
unfolding time_field short_time
time_before way s h =
    let n = length (digits s) in
    let r = drop n s in
    let v = number 0 (digits s) in
    rw (short_rounded way v [] (omega arith))
    (ap (λ (x : Option Field). pick (within 1 5 n) (pick (ends r) (reads_as (short_micros v []) n) x) None)
    (pick_when None (point r) (λ p. fraction_before way v (n + 1) (drop (n + 1) s) (few_decimals s p h))))

-- ---- seven decimals and more

pub time_seven : (way : Rounding) (s : List ℕ) → 6 < decimals (first s) → time_field way s ≡ None
time_seven way s h = go (time_field way s) refl
  where
    few : {v n : ℕ} → TimeRead way s v n → decimals (first s) ≤ 6
    few (read_whole a z) = omega (arith, ap decimals (a.all ∙ sym (append-nil (digits s))) ∙ decimals_past (digits s) [] (digits_are s))
    few (read_pointed {f} b a r z) = omega (arith, r.few, ap decimals a ∙ decimals_past (digits s) (46 ∷ digits f) (digits_are s))

    go : (x : Option Field) → time_field way s ≡ x → time_field way s ≡ None
    go (Some f) e = absurd (omega (arith, few (time_read way s f.value f.width e)))
    go None e = e
