-- Laws of a line, field by field.
-- Assumes nothing.
use Prim.Native.Nat.{ℕ, ◌+◌, ◌≤◌, ◌<◌}
use mathlib.Core.Path.{◌≡◌, refl, ap, ◌∙◌}
use mathlib.Core.List.{List, [], ◌∷◌, ◌++◌, append_assoc}
use native.Mathlib.Omega.{arith}
use native.Mathlib.Numerals.{add-one}
use lib.ListN.{length, get_or, set, drop, length-append, length-set, drop_of_length-le}
use lib.Seq.{drop-cons}
use Rattle.std.specs.Prelude.{map}
use Rattle.basics.specs.Text.{ending}
use Rattle.basics.proofs.FillLaws.{rest_at, back_at, rest_length, Filled, filled_byte, filled_part}
use Rattle.put.proofs.OutputLaws.{filled_done}
use Rattle.writing.specs.declared.text.Field.{Field}
use Rattle.writing.specs.Line.{field_text}

-- the texts of the fields from i on
abbrev pub fields_from : ℕ → List Field → List (List ℕ)
fields_from i fields = map field_text (drop i fields)

pub fields_next : (i : ℕ) (fields : List Field) (d : Field) → i < length fields → fields_from i fields ≡ field_text (get_or fields i d) ∷ fields_from (i + 1) fields
fields_next i fields d h = rw add-one (ap (map field_text) (drop-cons fields i d h))

pub ending_next : (i : ℕ) (fields : List Field) (d : Field) {k : ℕ} → i < length fields → k ≡ length (field_text (get_or fields i d))
    → length (ending (fields_from i fields)) ≡ 1 + k + length (ending (fields_from (i + 1) fields))
ending_next i fields d h e =
    ap (λ (x : List (List ℕ)). length (ending x)) (fields_next i fields d h)
    ∙ omega (arith, e, length-append (field_text (get_or fields i d)) (ending (fields_from (i + 1) fields)))

-- the output o, filled up to a with a line but for the fields ws and the LF, is o₁
pub record Lined (o o₁ : List ℕ) (a : ℕ) (ws : List (List ℕ)) (line : List ℕ) : Type 0 where
  pub text : List ℕ
  pub filled : Filled o o₁ text a
  pub whole : text ++ ending ws ≡ line

pub lined_first : {o o₁ word : List ℕ} {a : ℕ} (ws : List (List ℕ)) → Filled o o₁ word a → Lined o o₁ a ws (word ++ ending ws)
lined_first ws f = record { text = _; filled = f; whole = refl }

module _ {o o₁ line : List ℕ} {a : ℕ} (i : ℕ) (fields : List Field) (l : Lined o o₁ a (fields_from i fields) line) (r : length line ≤ length o) where
  module _ (d : Field) (h : i < length fields) where
    w : List ℕ
    w = field_text (get_or fields i d)

    after : List (List ℕ)
    after = fields_from (i + 1) fields

    next : l.text ++ 32 ∷ (w ++ ending after) ≡ line
    unfolding w after
    next = rw (fields_next i fields d h) at l.whole

    -- there is room for a space and the next field
    room : a + 1 + length w ≤ length o
    room = omega (arith, ap length next, length-append l.text (32 ∷ (w ++ ending after)), length-append w (ending after), l.filled.long)

    pub lined_in : a < length o₁
    lined_in = omega (arith, room, l.filled.kept)

    pub lined_room : a + 1 ≤ length (set o₁ a 32)
    lined_room = omega (arith, room, l.filled.kept, length-set o₁ a 32)

    pub lined_rest : length (field_text (get_or fields i d)) ≤ length (rest_at (set o₁ a 32) (a + 1))
    unfolding w
    lined_rest = omega (arith, room, l.filled.kept, length-set o₁ a 32, rest_length (set o₁ a 32) (a + 1))

    -- they are put
    pub lined_more : {ys : List ℕ} {k : ℕ} → length ys ≡ length (rest_at (set o₁ a 32) (a + 1))
        → (k ≡ length (field_text (get_or fields i d))) × (ys ≡ field_text (get_or fields i d) ++ drop k (rest_at (set o₁ a 32) (a + 1)))
        → Lined o (back_at (set o₁ a 32) (a + 1) ys) (a + 1 + k) (fields_from (i + 1) fields) line
    unfolding w after
    lined_more e p =
        record {
          text = l.text ++ (32 ∷ []) ++ w;
          filled = filled_part (filled_byte l.filled 32 (omega (arith, room))) w (omega (arith, room)) p.0 e p.1;
          whole = simp append_assoc next;
        }

  -- the LF is put
  pub lined_done : length fields ≤ i → (a + 1 ≡ length line) × (set o₁ a 10 ≡ line ++ drop (a + 1) o)
  lined_done h =
      let e : l.text ++ 10 ∷ [] ≡ line = rw (drop_of_length-le fields {i = i} h) at l.whole in
      filled_done line e (filled_byte l.filled 10 (omega (arith, ap length e, length-append l.text (10 ∷ []), l.filled.long)))

  pub lined_end : length fields ≤ i → a < length o₁
  lined_end h =
      let e : l.text ++ 10 ∷ [] ≡ line = rw (drop_of_length-le fields {i = i} h) at l.whole in
      omega (arith, ap length e, length-append l.text (10 ∷ []), l.filled.long, l.filled.kept)
