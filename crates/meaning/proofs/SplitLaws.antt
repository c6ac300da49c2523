-- A text by its first line, and the line of a word and fields.
-- Assumes nothing.
use Prim.Native.Nat.{ℕ, ◌≤◌}
use Prim.Native.String.{String}
use mathlib.Core.Path.{◌≡◌, refl, sym, ap, ◌∙◌}
use mathlib.Core.Bool.{Bool, true, false}
use mathlib.Core.List.{List, [], ◌∷◌, ◌++◌, append_assoc}
use native.Mathlib.Omega.{arith}
use native.Mathlib.Decide.{ℕ_discrete}
use lib.ListN.{length}
use lib.Dec.{eqb}
use borrow.Author.Tests.{eqb-false, ne_eqb}
use Rattle.basics.specs.Text.{bytes, ending, line_of}
use Rattle.line.specs.Stated.{Without, no_byte, one_byte, IsField, AreFields, none, more, IsLine}
use Rattle.listing.specs.Lines.{lines, ends_in_LF}

-- ---- a text by its first line

-- s is the line l, LF and the rest
pub record Start (s l : List ℕ) : Type 0 where
  pub rest : List ℕ
  pub text : s ≡ l ++ (10 ∷ rest)
  pub clean : Without 10 l

-- a text, line after line, up to what no LF ends
pub data Lines : List ℕ → Type 0 where
  no_line : {s : List ℕ} → Without 10 s → Lines s
  a_line : {s l : List ℕ} (a : Start s l) → Lines a.rest → Lines s

pub lines_of : (s : List ℕ) → Lines s
lines_of [] = no_line no_byte
lines_of (b ∷ s) = go (ℕ_discrete b 10) (lines_of s)
  where
    go : Dec (b ≡ 10) → Lines s → Lines (b ∷ s)
    go (yes e) r = a_line {l = []} (record { rest = s; text = rw e; clean = no_byte }) r
    go (no n) (no_line w) = no_line (one_byte n w)
    go (no n) (a_line {l} a r) =
        a_line {l = b ∷ l} (record { rest = a.rest; text = ap (λ (x : List ℕ). b ∷ x) a.text; clean = one_byte n a.clean }) r

pub no_lines_lem : {s : List ℕ} → Without 10 s → lines s ≡ []
no_lines_lem no_byte = refl
no_lines_lem (one_byte {c} n r) = rw (ne_eqb c 10 n, no_lines_lem r)

pub open_end : {s : List ℕ} → Without 10 s → 1 ≤ length s → (c : Bool) → ends_in_LF c s ≡ false
open_end no_byte h c = absurd (omega arith)
open_end (one_byte {c = b} n no_byte) h c = ne_eqb b 10 n
open_end (one_byte {c = b} n (one_byte m r)) h c = open_end (one_byte m r) (omega arith) (eqb b 10)

module _ (rest : List ℕ) where
  pub line_split : {l : List ℕ} → Without 10 l → lines (l ++ (10 ∷ rest)) ≡ l ∷ lines rest
  line_split no_byte = refl
  line_split (one_byte {c} n r) = rw (ne_eqb c 10 n, line_split r)

  pub line_shut : {l : List ℕ} → Without 10 l → (c : Bool) → ends_in_LF c (l ++ (10 ∷ rest)) ≡ ends_in_LF true rest
  line_shut no_byte c = refl
  line_shut (one_byte {c = b} n r) c = line_shut r (eqb b 10)

-- ---- the line of a word and fields

-- without the LF
abbrev body : List (List ℕ) → List ℕ
body [] = []
body (w ∷ ws) = 32 ∷ (w ++ body ws)

body_ends : (ws : List (List ℕ)) → body ws ++ (10 ∷ []) ≡ ending ws
body_ends [] = refl
body_ends (w ∷ ws) = ap (λ (x : List ℕ). 32 ∷ x) (append_assoc w (body ws) (10 ∷ []) ∙ ap (λ (x : List ℕ). w ++ x) (body_ends ws))

clean_both : {w z : List ℕ} → Without 10 w → Without 10 z → Without 10 (w ++ z)
clean_both no_byte z = z
clean_both (one_byte n r) z = one_byte n (clean_both r z)

body_clean : {ws : List (List ℕ)} → AreFields ws → Without 10 (body ws)
body_clean none = no_byte
body_clean (more a r) = one_byte (eqb-false 32 10 refl) (clean_both a.no_end (body_clean r))

-- a text that starts with it
pub record Begun (word : String) (ws : List (List ℕ)) (rest : List ℕ) : Type 0 where
  pub l : List ℕ
  pub line : IsLine word ws l
  pub clean : Without 10 l
  pub text : line_of word ws ++ rest ≡ l ++ (10 ∷ rest)

pub begun : (word : String) {ws : List (List ℕ)} (rest : List ℕ) → IsField (bytes word) → AreFields ws → Begun word ws rest
begun word {ws} rest a r =
    let l = bytes word ++ body ws in
    let e : l ++ (10 ∷ []) ≡ line_of word ws = append_assoc (bytes word) (body ws) (10 ∷ []) ∙ ap (λ (x : List ℕ). bytes word ++ x) (body_ends ws) in
    record {
      l = l;
      line = record { text = e; fields = r };
      clean = clean_both a.no_end (body_clean r);
      text = rw (← e) (append_assoc l (10 ∷ []) rest);
    }

-- and the other way round
pub word_text_lem : {word : String} {ws : List (List ℕ)} {l : List ℕ} (rest : List ℕ) → IsLine word ws l → l ++ (10 ∷ rest) ≡ line_of word ws ++ rest
word_text_lem {l = l} rest i = sym (append_assoc l (10 ∷ []) rest) ∙ ap (λ (x : List ℕ). x ++ rest) i.text
