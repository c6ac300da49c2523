-- A line of a form is the line of its word and its fields (specs/Stated.antt): `form_line`.
-- Assumes nothing.
use Prim.Native.Nat.{ℕ, zero, suc, ◌+◌}
use Prim.Native.String.{String}
use mathlib.Core.Path.{◌≡◌, refl, sym, ap, ◌∙◌}
use mathlib.Core.Bool.{Bool, true, false, ◌||◌, true≢false}
use mathlib.Core.List.{List, [], ◌∷◌, ◌++◌}
use native.Mathlib.Omega.{arith}
use lib.ListN.{length, get_or, drop, drop_of_length-le}
use lib.Seq.{drop-cons}
use lib.Dec.{eqb}
use borrow.Author.Tests.{ne_eqb, eqb-true}
use Rattle.basics.specs.Choice.{pick}
use Rattle.basics.specs.Text.{bytes, ending}
use Rattle.basics.proofs.ChoiceLaws.{and_true}
use Rattle.field.specs.Number.{apart, first}
use Rattle.line.specs.Fields.{others, fields, filled, field_count, form}
use Rattle.line.specs.Stated.{Without, no_byte, one_byte, AreFields, none, more, IsLine}
use Rattle.line.proofs.FieldLaws.{form_fields}

-- ---- bytes that a text has not

in_field : (b : ℕ) → apart b ≡ false → (b ≡ 32 → ⊥) × (b ≡ 10 → ⊥)
in_field b e = (λ q. true≢false (sym (ap apart q) ∙ e), λ q. true≢false (sym (ap apart q) ∙ e))

pub field_in : (b : ℕ) → (b ≡ 32 → ⊥) → (b ≡ 10 → ⊥) → apart b ≡ false
field_in b n m = rw (ne_eqb b 32 n, ne_eqb b 10 m)

pub field_alone : {w : List ℕ} → Without 32 w → Without 10 w → first w ≡ w
field_alone no_byte no_byte = refl
field_alone (one_byte {c} n r) (one_byte m q) = rw (field_in c n m, field_alone r q)

pub first_field : (s : List ℕ) → Without 32 (first s) × Without 10 (first s)
first_field [] = (no_byte, no_byte)
first_field (b ∷ s) = go (apart b) refl (first_field s)
  where
    go : (t : Bool) → apart b ≡ t → Without 32 (first s) × Without 10 (first s) → Without 32 (pick t [] (b ∷ first s)) × Without 10 (pick t [] (b ∷ first s))
    go true e ih = (no_byte, no_byte)
    go false e ih = let n = in_field b e in (one_byte n.0 ih.0, one_byte n.1 ih.1)

-- ---- the fields of a line

-- nothing in field i parts fields
abbrev pub Clean : List (List ℕ) → ℕ → Type 0
Clean ws i = Without 32 (get_or ws i []) × Without 10 (get_or ws i [])

pub others_field : (l : List ℕ) (i : ℕ) → Clean (others l) i
others_field [] i = (no_byte, no_byte)
others_field (b ∷ l) i = go (apart b) i (others_field l)
  where
    go : (t : Bool) (i : ℕ) → ((i : ℕ) → Clean (others l) i) → Clean (pick t (first l ∷ others l) (others l)) i
    go true zero ih = first_field l
    go true (suc i) ih = ih i
    go false i ih = ih i

fields_are : (ws : List (List ℕ)) → ((i : ℕ) → Clean ws i) → filled ws ≡ true → AreFields ws
fields_are [] h e = none
fields_are ([] ∷ ws) h e = absurd (true≢false (sym e))
fields_are ((b ∷ w) ∷ ws) h e = more {w = b ∷ w} (record { some = omega arith; no_space = (h 0).0; no_end = (h 0).1 }) (fields_are ws (λ i. h (suc i)) e)

line_text : {l : List ℕ} → Without 10 l → l ++ (10 ∷ []) ≡ first l ++ ending (others l)
line_text no_byte = refl
line_text (one_byte {c = b} {s = l} n r) = go (apart b) refl (line_text r)
  where
    space : (t : Bool) → eqb b 32 ≡ t → (t || eqb b 10) ≡ true → b ≡ 32
    space true e q = eqb-true b 32 e
    space false e q = absurd (n (eqb-true b 10 q))

    go : (t : Bool) → apart b ≡ t → l ++ (10 ∷ []) ≡ first l ++ ending (others l)
        → b ∷ (l ++ (10 ∷ [])) ≡ pick t [] (b ∷ first l) ++ ending (pick t (first l ∷ others l) (others l))
    go true e ih = rw (space (eqb b 32) refl e, ih)
    go false e ih = rw ih

-- n elements, from i on
abbrev pub fields_from : ℕ → ℕ → List (List ℕ) → List (List ℕ)
fields_from zero i ws = []
fields_from (suc n) i ws = get_or ws i [] ∷ fields_from n (suc i) ws

from_is : (n i : ℕ) (ws : List (List ℕ)) → length ws ≡ i + n → drop i ws ≡ fields_from n i ws
from_is zero i ws e = drop_of_length-le ws {i = i} (omega arith)
from_is (suc n) i ws e = drop-cons ws i [] (omega arith) ∙ ap (λ (x : List (List ℕ)). get_or ws i [] ∷ x) (from_is n (suc i) ws (omega arith))

form_filled : (w : List ℕ) (k : ℕ) (l : List ℕ) → form w (suc k) l ≡ true → filled (fields l) ≡ true
unfolding field_count
form_filled w k l e = go (filled (fields l)) (eqb-true (field_count l) (suc k) (and_true (eqb (field_count l) (suc k)) _ e).0)
  where
    go : (b : Bool) → pick b (length (fields l)) 0 ≡ suc k → b ≡ true
    go true q = refl
    go false q = absurd (omega arith)

-- where no field is empty, none after the first is
filled_others : (w : List ℕ) (ws : List (List ℕ)) → filled (w ∷ ws) ≡ true → filled ws ≡ true
filled_others [] ws e = absurd (true≢false (sym e))
filled_others (b ∷ w) ws e = e

pub form_line : (word : String) (k : ℕ) (l : List ℕ) → Without 10 l → form (bytes word) (suc k) l ≡ true → IsLine word (fields_from k 0 (others l)) l
form_line word k l n e =
    let f = form_fields (bytes word) k l e in
    let o = from_is k 0 (others l) (omega arith) in
    rw (← o) (record { text = line_text n ∙ rw f.1; fields = fields_are (others l) (others_field l) (filled_others (first l) (others l) (form_filled (bytes word) k l e)) })
