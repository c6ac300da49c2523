-- The field that a text starts with reads as the text does.
-- Assumes nothing.
use Prim.Native.Nat.{ℕ, ◌+◌}
use mathlib.Core.Path.{◌≡◌, refl, sym, ap, ◌∙◌}
use mathlib.Core.Bool.{Bool, true, false, false≢true, true≢false}
use mathlib.Core.List.{List, [], ◌∷◌, ◌++◌}
use native.Mathlib.Omega.{arith}
use lib.ListN.{length, drop}
use lib.Seq.{drop-drop, drop-append_seam}
use lib.Dec.{eqb}
use borrow.Author.Tests.{eqb-true, ne_eqb}
use Rattle.std.specs.Prelude.{Option, None}
use Rattle.basics.specs.Choice.{pick, within}
use Rattle.basics.proofs.ChoiceLaws.{pick_when, within_true}
use Rattle.field.specs.declared.Field.{Field}
use Rattle.field.specs.declared.Rounding.{Rounding}
use Rattle.field.specs.Number.{reads_as, is_digit, digits, number, apart, first, ends, point, nanos, rounded, fraction, time_field, count_field}

-- a digit parts no fields
pub digit_in : (b : ℕ) → is_digit b ≡ true → apart b ≡ false
digit_in b e =
    let h = within_true 48 57 b e in
    rw (ne_eqb b 32 (λ q. omega arith), ne_eqb b 10 (λ q. omega arith))

-- ---- the field that a text starts with

pub ends_first : (s : List ℕ) → ends (first s) ≡ ends s
ends_first [] = refl
ends_first (b ∷ s) = go (apart b) refl
  where
    go : (t : Bool) → apart b ≡ t → ends (pick t [] (b ∷ first s)) ≡ apart b
    go true e = sym e
    go false e = refl

pub first_none : (s : List ℕ) → ends s ≡ true → first s ≡ []
first_none [] e = refl
first_none (b ∷ s) e = rw e

pub first_point : (s : List ℕ) → point s ≡ true → first s ≡ 46 ∷ first (drop 1 s)
first_point [] e = absurd (false≢true e)
first_point (b ∷ s) e = rw (eqb-true b 46 e)

point_first : (s : List ℕ) → point (first s) ≡ point s
point_first [] = refl
point_first (b ∷ s) = go (apart b) refl
  where
    go : (t : Bool) → apart b ≡ t → point (pick t [] (b ∷ first s)) ≡ eqb b 46
    go true e = sym (ne_eqb b 46 (λ q. true≢false (sym e ∙ ap apart q)))
    go false e = refl

pub first_digits : (s : List ℕ) → digits (first s) ≡ digits s
first_digits [] = refl
first_digits (b ∷ s) = go (is_digit b) refl (first_digits s)
  where
    go : (t : Bool) → is_digit b ≡ t → digits (first s) ≡ digits s → digits (first (b ∷ s)) ≡ pick t (b ∷ digits s) []
    go true e ih = rw (digit_in b e, e, ih)
    go false e ih = other (apart b)
      where
        other : (u : Bool) → digits (pick u [] (b ∷ first s)) ≡ []
        other true = refl
        other false = rw e

-- the digits, and then what the field has after them
pub first_split : (s : List ℕ) → first s ≡ digits s ++ first (drop (length (digits s)) s)
first_split [] = refl
first_split (b ∷ s) = go (is_digit b) refl (first_split s)
  where
    go : (t : Bool) → is_digit b ≡ t → first s ≡ digits s ++ first (drop (length (digits s)) s) → first (b ∷ s) ≡ pick t (b ∷ digits s) [] ++ first (drop (length (pick t (b ∷ digits s) [])) (b ∷ s))
    go true e ih = rw (digit_in b e) (ap (λ (l : List ℕ). b ∷ l) ih)
    go false e ih = refl

pub first_rest : (s : List ℕ) → drop (length (digits s)) (first s) ≡ first (drop (length (digits s)) s)
first_rest s = ap (drop (length (digits s))) (first_split s) ∙ drop-append_seam (digits s) _

-- ---- the field alone

fraction_first : (way : Rounding) (v at : ℕ) (s : List ℕ) → fraction way v at (first s) ≡ fraction way v at s
unfolding fraction
fraction_first way v at s = rw (first_digits s, first_rest s, ends_first (drop (length (digits s)) s))

pub count_first : (s : List ℕ) → count_field (first s) ≡ count_field s
unfolding count_field
count_first s = rw (first_digits s, first_rest s, ends_first (drop (length (digits s)) s))

past_point : (s : List ℕ) (n : ℕ) → drop n (first s) ≡ first (drop n s) → point (drop n s) ≡ true → drop (n + 1) (first s) ≡ first (drop (n + 1) s)
past_point s n e p =
    sym (drop-drop 1 n (first s)) ∙ ap (drop 1) (e ∙ first_point (drop n s) p) ∙ ap first (drop-drop 1 n s)

pub time_first : (way : Rounding) (s : List ℕ) → time_field way (first s) ≡ time_field way s
unfolding time_field
time_first way s =
    let n = length (digits s) in
    let r = drop n s in
    let v = number 0 (digits s) in
    rw (first_digits s, first_rest s, ends_first (drop (length (digits s)) s), point_first (drop (length (digits s)) s))
    (ap (λ (x : Option Field). pick (within 1 5 n) (pick (ends r) (reads_as (rounded way (nanos v [])) n) x) None)
    (pick_when None (point r) (λ p. ap (fraction way v (n + 1)) (past_point s n (first_rest s) p) ∙ fraction_first way v (n + 1) (drop (n + 1) s))))
