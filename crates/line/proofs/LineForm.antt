-- The line of a word and fields has the form (specs/Stated.antt): `line_form`, the other way round from `form_line`.
-- Assumes nothing.
use Prim.Native.Nat.{ℕ, suc, ◌≤◌}
use Prim.Native.String.{String}
use mathlib.Core.Path.{◌≡◌, refl, sym, ap, ◌∙◌}
use mathlib.Core.Bool.{Bool, true, false}
use mathlib.Core.List.{List, [], ◌∷◌, ◌++◌}
use native.Mathlib.Omega.{arith}
use lib.ListN.{length}
use lib.Dec.{eqb}
use borrow.Author.Tests.{eq-eqb, eqb-true}
use Rattle.basics.specs.Choice.{pick}
use Rattle.basics.specs.Text.{bytes, ending}
use Rattle.basics.proofs.ChoiceLaws.{and_true}
use Rattle.field.specs.Number.{apart, first, ends}
use Rattle.line.specs.Fields.{others, filled, field_count, same, form}
use Rattle.line.specs.Stated.{Without, no_byte, one_byte, IsField, AreFields, none, more, IsLine}
use Rattle.line.proofs.WordLaws.{field_in, field_alone}

first_end : (l z : List ℕ) → ends z ≡ true → first (l ++ z) ≡ first l
first_end [] [] e = refl
first_end [] (b ∷ z) e = rw e
first_end (b ∷ l) z e = rw (first_end l z e)

others_end : (l : List ℕ) → others (l ++ (10 ∷ [])) ≡ others l ++ ([] ∷ [])
others_end [] = refl
others_end (b ∷ l) = rw (first_end l (10 ∷ []) refl, others_end l) (go (apart b))
  where
    go : (t : Bool) → pick t (first l ∷ (others l ++ ([] ∷ []))) (others l ++ ([] ∷ [])) ≡ pick t (first l ∷ others l) (others l) ++ ([] ∷ [])
    go true = refl
    go false = refl

ending_ends : (ws : List (List ℕ)) → ends (ending ws) ≡ true
ending_ends [] = refl
ending_ends (w ∷ ws) = refl

word_others : {w : List ℕ} (z : List ℕ) → Without 32 w → Without 10 w → others (w ++ z) ≡ others z
word_others z no_byte no_byte = refl
word_others z (one_byte {c} n r) (one_byte m q) = rw (field_in c n m) (word_others z r q)

ending_others : {ws : List (List ℕ)} → AreFields ws → others (ending ws) ≡ ws ++ ([] ∷ [])
ending_others none = refl
ending_others (more {w} {ws} a r) =
    rw (first_end w (ending ws) (ending_ends ws), field_alone a.no_space a.no_end, word_others (ending ws) a.no_space a.no_end, ending_others r)

-- all but the last
initial : List (List ℕ) → List (List ℕ)
initial [] = []
initial (w ∷ []) = []
initial (w ∷ v ∷ ws) = w ∷ initial (v ∷ ws)

initial_is : (ws : List (List ℕ)) (v : List ℕ) → initial (ws ++ (v ∷ [])) ≡ ws
unfolding initial
initial_is [] v = refl
initial_is (w ∷ []) v = refl
initial_is (w ∷ u ∷ ws) v = rw (initial_is (u ∷ ws) v)

same_self : (w : List ℕ) → same w w ≡ true
same_self [] = refl
same_self (b ∷ w) = rw (eq-eqb b b refl, same_self w)

filled_fields : {ws : List (List ℕ)} → AreFields ws → filled ws ≡ true
filled_fields none = refl
filled_fields (more {w} {ws} a r) = go w a.some (filled_fields r)
  where
    go : (w : List ℕ) → 1 ≤ length w → filled ws ≡ true → filled (w ∷ ws) ≡ true
    go [] h ih = absurd (omega arith)
    go (b ∷ w) h ih = ih

pub line_fields : {word : String} {ws : List (List ℕ)} {l : List ℕ} → IsField (bytes word) → IsLine word ws l → (first l ≡ bytes word) × (others l ≡ ws)
line_fields {word} {ws} {l} a r = (
  sym (first_end l (10 ∷ []) refl) ∙ ap first r.text ∙ first_end (bytes word) (ending ws) (ending_ends ws) ∙ field_alone a.no_space a.no_end,
  sym (initial_is (others l) []) ∙ ap initial (sym (others_end l) ∙ ap others r.text ∙ word_others (ending ws) a.no_space a.no_end ∙ ending_others r.fields) ∙ initial_is ws [],
)

pub line_form : {word : String} {ws : List (List ℕ)} {l : List ℕ} → IsField (bytes word) → IsLine word ws l → form (bytes word) (suc (length ws)) l ≡ true
unfolding field_count
line_form {word} {ws} {l} a r =
    let f = line_fields a r in
    rw (f.0, f.1, filled_fields (more a r.fields), eq-eqb (suc (length ws)) (suc (length ws)) refl, same_self (bytes word))

-- a line of one form is of no form with another number of fields
pub form_other : (w v : List ℕ) (k j : ℕ) (s : List ℕ) → form w k s ≡ true → eqb k j ≡ false → form v j s ≡ false
form_other w v k j s f e = rw (eqb-true (field_count s) k (and_true (eqb (field_count s) k) _ f).0, e)
