-- A text states one number only.
-- Assumes nothing.
use Prim.Native.Nat.{ℕ, ◌+◌}
use mathlib.Core.Path.{◌≡◌, refl, sym, ap, ◌∙◌}
use mathlib.Core.List.{List, [], ◌∷◌}
use native.Mathlib.Omega.{arith}
use lib.ListN.{length, drop, drop_of_length-le}
use lib.Seq.{drop-append-add}
use Rattle.field.specs.declared.Rounding.{Rounding}
use Rattle.field.specs.Number.{digits, number, nanos, rounded}
use Rattle.field.specs.Spelling.{value_of, Time, Spells, whole, pointed, StatesTime, StatesCount}
use Rattle.field.proofs.DigitLaws.{padded_number}
use Rattle.field.proofs.RoundingLaws.{to_rounded}
use Rattle.field.proofs.Spelled.{value_number, digits_all, digits_whole}

-- the nanoseconds that a text spells
abbrev spelled : List ℕ → ℕ
spelled w = nanos (number 0 (digits w)) (digits (drop (length (digits w) + 1) w))

spells_is : (w : List ℕ) (ns : ℕ) → Spells w ns → ns ≡ spelled w
spells_is w ns (whole d e) =
    let q : nanos (value_of w) [] ≡ ns = omega arith in
    rw (digits_whole w d.digits, drop_of_length-le w {i = length w + 1} (omega arith), value_number w, q)
spells_is _ ns (pointed {w} {f} d g e) =
    rw (digits_all w (46 ∷ f) d.digits refl, drop-append-add w (46 ∷ f) 1, digits_whole f g.digits, padded_number (number 0 w) f g.few, value_number w, value_number f) e

pub count_one : {w z : List ℕ} {a b : ℕ} → w ≡ z → StatesCount w a → StatesCount z b → a ≡ b
count_one e c d = c.value ∙ ap value_of e ∙ sym d.value

pub time_one : {way : Rounding} {w z : List ℕ} {x y : Time} → w ≡ z → StatesTime way w x → StatesTime way z y → x ≡ y
time_one {way} {w} {z} {x} {y} e c d =
    let t : x.typed ≡ y.typed = spells_is w x.typed c.spells ∙ ap spelled e ∙ sym (spells_is z y.typed d.spells) in
    let h : x.held ≡ y.held = sym (to_rounded way x.typed x.held c.rounds) ∙ ap (rounded way) t ∙ to_rounded way y.typed y.held d.rounds in
    λ j. record { typed = t j; held = h j }
