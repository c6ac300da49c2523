-- Laws of a line's fields, as the code meets them: at a place i of s, where `drop i s` is what is left.
-- Assumes nothing.
use Prim.Native.Nat.{ℕ, suc, ◌+◌, ◌<◌}
use mathlib.Core.Path.{◌≡◌, refl, sym, ap, ◌∙◌}
use mathlib.Core.Bool.{Bool, true, false, true≢false, ◌&&◌}
use mathlib.Core.List.{List, [], ◌∷◌}
use native.Mathlib.Omega.{arith}
use native.Mathlib.Numerals.{add-one, one-add}
use lib.ListN.{length, get_or, drop}
use lib.Seq.{drop-cons}
use lib.Dec.{eqb}
use borrow.Author.Tests.{eq-eqb, ne_eqb, eqb-true, eqb-false}
use Rattle.basics.specs.Choice.{pick}
use Rattle.field.specs.Number.{apart, first, ends}
use Rattle.std.specs.List.{starts_with}
use Rattle.line.specs.Fields.{others, fields, filled, field_count, same}

-- ---- a byte at a place

ends_byte : (s : List ℕ) (i : ℕ) → i < length s → ends (drop i s) ≡ apart (get_or s i 0)
ends_byte s i h = rw (drop-cons s i 0 h)

-- ---- counting fields: n fields are begun, and t is left; a gap says that the field begun is empty so far

abbrev filled_from : Bool → List ℕ → Bool
filled_from true t = filled (fields t)
filled_from false t = filled (others t)

abbrev pub tally : ℕ → Bool → List ℕ → ℕ
tally n gap t = pick (filled_from gap t) (n + length (others t)) 0

pub tally_start : (s : List ℕ) → tally 1 true s ≡ field_count s
unfolding field_count
tally_start s = rw one-add

module _ (s : List ℕ) (i n : ℕ) (gap : Bool) where
  pub tally_next : i < length s → gap ≡ false → ends (drop i s) ≡ true → tally n gap (drop i s) ≡ tally (n + 1) true (drop (i + 1) s)
  tally_next h g e =
      let a = sym (ends_byte s i h) ∙ e in
      rw (g, drop-cons s i 0 h, a, add-one i)
      (ap (λ (k : ℕ). pick (filled (fields (drop (suc i) s))) k 0) (omega arith))

  pub tally_in : i < length s → ends (drop i s) ≡ false → tally n gap (drop i s) ≡ tally n false (drop (i + 1) s)
  tally_in h e = rw (drop-cons s i 0 h, a, add-one i) (go gap)
    where
      a : apart (get_or s i 0) ≡ false
      a = sym (ends_byte s i h) ∙ e

      go : (g : Bool) → pick (filled_from g (get_or s i 0 ∷ drop (suc i) s)) (n + length (others (drop (suc i) s))) 0 ≡ tally n false (drop (suc i) s)
      go true = rw a
      go false = rw a

-- ---- the first field

-- a word in which nothing parts fields is the first field of a text that starts with it and at which a field ends behind it
pub first_is : (w s : List ℕ) → first w ≡ w → same (first s) w ≡ (starts_with eqb s w && ends (drop (length w) s))
first_is [] [] e = refl
first_is [] (b ∷ s) e = go (apart b)
  where
    go : (u : Bool) → same (pick u [] (b ∷ first s)) [] ≡ u
    go true = refl
    go false = refl
first_is (x ∷ w) [] e = refl
first_is (x ∷ w) (b ∷ s) e = go (apart x) refl e (first_is w s)
  where
    byte : (u t : Bool) → apart b ≡ u → eqb x b ≡ t → apart x ≡ false → same (first s) w ≡ (starts_with eqb s w && ends (drop (length w) s)) → same (pick u [] (b ∷ first s)) (x ∷ w) ≡ ((t && starts_with eqb s w) && ends (drop (length w) s))
    byte true true p q n f = absurd (true≢false (sym p ∙ sym (ap apart (eqb-true x b q)) ∙ n))
    byte true false p q n f = refl
    byte false true p q n f = rw (eq-eqb b x (sym (eqb-true x b q))) f
    byte false false p q n f = rw (ne_eqb b x (λ z. eqb-false x b q (sym z)))

    go : (u : Bool) → apart x ≡ u → pick u [] (x ∷ first w) ≡ x ∷ w → (first w ≡ w → same (first s) w ≡ (starts_with eqb s w && ends (drop (length w) s))) → same (first (b ∷ s)) (x ∷ w) ≡ (starts_with eqb (b ∷ s) (x ∷ w) && ends (drop (length (x ∷ w)) (b ∷ s)))
    go true n q ih = let z : ◌≡◌ {A = ℕ} 0 1 = cc in absurd (omega arith)
    go false n q ih = byte (apart b) (eqb x b) refl refl n (ih (cc))
