-- What a field is that reads as a number, and its width.
-- Assumes nothing.
use Prim.Native.Nat.{ℕ, ◌+◌, ◌≤◌}
use mathlib.Core.Path.{◌≡◌, refl, ap, ◌∙◌}
use mathlib.Core.Bool.{Bool, true, false, ◌&&◌}
use mathlib.Core.List.{List, [], ◌∷◌, ◌++◌, append-nil}
use native.Mathlib.Omega.{arith}
use lib.ListN.{length, drop, length-append}
use lib.Seq.{drop-drop}
use Rattle.std.specs.Prelude.{Option, None}
use Rattle.basics.specs.Choice.{pick, within}
use Rattle.basics.proofs.ChoiceLaws.{and_true, within_true}
use Rattle.field.specs.declared.Field.{Field}
use Rattle.field.specs.declared.Rounding.{Rounding}
use Rattle.field.specs.Number.{reads_as, digits, number, first, ends, point, nanos, rounded, fraction, time_field, count_field}
use Rattle.field.proofs.DigitLaws.{alike}
use Rattle.field.proofs.FirstField.{first_none, first_point, first_split}

-- ---- what a field is that reads as a number

-- where a choice against `None` gives a value, its test passed
pick_value : (b : Bool) (x : Option Field) (v n : ℕ) → pick b x None ≡ reads_as v n → (b ≡ true) × (x ≡ reads_as v n)
pick_value true x v n e = (refl, e)
pick_value false x v n e = let z : ◌≡◌ {A = ℕ} 0 1 = cc in absurd (omega arith)

-- one to k digits, and no more
pub record AllDigits (k : ℕ) (s : List ℕ) : Type 0 where
  pub all : first s ≡ digits s
  pub some : 1 ≤ length (digits s)
  pub few : length (digits s) ≤ k

all_here : (s : List ℕ) → ends (drop (length (digits s)) s) ≡ true → first s ≡ digits s
all_here s e = first_split s ∙ ap (λ (l : List ℕ). digits s ++ l) (first_none (drop (length (digits s)) s) e) ∙ append-nil (digits s)

all_digits : (k : ℕ) (s : List ℕ) (x : Option Field) (v n : ℕ) → pick (within 1 k (length (digits s)) && ends (drop (length (digits s)) s)) x None ≡ reads_as v n → AllDigits k s × (x ≡ reads_as v n)
all_digits k s x v n e =
    let p = pick_value (within 1 k (length (digits s)) && ends (drop (length (digits s)) s)) x v n e in
    let q = and_true (within 1 k (length (digits s))) (ends (drop (length (digits s)) s)) p.0 in
    let b = within_true 1 k (length (digits s)) q.0 in
    (record { all = all_here s q.1; some = b.0; few = b.1 }, p.1)

pub count_read : (s : List ℕ) (v n : ℕ) → count_field s ≡ reads_as v n → AllDigits 4 s × (reads_as (number 0 (digits s)) (length (digits s)) ≡ reads_as v n)
unfolding count_field
count_read s v n e = all_digits 4 s (reads_as (number 0 (digits s)) (length (digits s))) v n e

fraction_read : (way : Rounding) (u at : ℕ) (s : List ℕ) (v n : ℕ) → fraction way u at s ≡ reads_as v n
    → AllDigits 6 s × (reads_as (rounded way (nanos u (digits s))) (at + length (digits s)) ≡ reads_as v n)
unfolding fraction
fraction_read way u at s v n e = all_digits 6 s (reads_as (rounded way (nanos u (digits s))) (at + length (digits s))) v n e

-- one to five digits, or those, a point and one to six digits, which f starts with
pub data TimeRead (way : Rounding) (s : List ℕ) (v n : ℕ) : Type 0 where
  read_whole : AllDigits 5 s → reads_as (rounded way (nanos (number 0 (digits s)) [])) (length (digits s)) ≡ reads_as v n → TimeRead way s v n
  read_pointed : {f : List ℕ} → (1 ≤ length (digits s)) × (length (digits s) ≤ 5) → first s ≡ digits s ++ (46 ∷ digits f) → AllDigits 6 f
      → reads_as (rounded way (nanos (number 0 (digits s)) (digits f))) (length (digits s) + 1 + length (digits f)) ≡ reads_as v n → TimeRead way s v n

pub time_read : (way : Rounding) (s : List ℕ) (v n : ℕ) → time_field way s ≡ reads_as v n → TimeRead way s v n
unfolding time_field
time_read way s v n e = go (ends r) refl p.1
  where
    m : ℕ
    m = length (digits s)

    r : List ℕ
    r = drop m s

    f : List ℕ
    f = drop (m + 1) s

    after : Option Field
    after = pick (point r) (fraction way (number 0 (digits s)) (m + 1) f) None

    p : (within 1 5 m ≡ true) × (pick (ends r) (reads_as (rounded way (nanos (number 0 (digits s)) [])) m) after ≡ reads_as v n)
    p = pick_value (within 1 5 m) (pick (ends r) (reads_as (rounded way (nanos (number 0 (digits s)) [])) m) after) v n e

    b : (1 ≤ m) × (m ≤ 5)
    b = within_true 1 5 m p.0

    go : (t : Bool) → ends r ≡ t → pick t (reads_as (rounded way (nanos (number 0 (digits s)) [])) m) after ≡ reads_as v n → TimeRead way s v n
    go true d q = read_whole (record { all = all_here s d; some = b.0; few = b.1 }) q
    go false d q =
        let h = pick_value (point r) (fraction way (number 0 (digits s)) (m + 1) f) v n q in
        let l = fraction_read way (number 0 (digits s)) (m + 1) f v n h.1 in
        let a = first_point r h.0 ∙ ap (λ (x : List ℕ). 46 ∷ first x) (drop-drop 1 m s) ∙ ap (λ (x : List ℕ). 46 ∷ x) l.0.all in
        read_pointed {f = f} b (first_split s ∙ ap (λ (x : List ℕ). digits s ++ x) a) l.0 l.1

-- ---- the width

pub count_width : (s : List ℕ) (v n : ℕ) → count_field s ≡ reads_as v n → (n ≡ length (first s)) × (n ≤ 4)
count_width s v n e =
    let r = count_read s v n e in
    omega (arith, alike r.1, r.0.few, ap length r.0.all)

pub time_width : (way : Rounding) (s : List ℕ) (v n : ℕ) → time_field way s ≡ reads_as v n → (n ≡ length (first s)) × (n ≤ 12)
time_width way s v n e = go (time_read way s v n e)
  where
    go : TimeRead way s v n → (n ≡ length (first s)) × (n ≤ 12)
    go (read_whole r z) =
        omega (arith, alike z, ap length r.all)
    go (read_pointed {f} b a r z) =
        omega (arith, alike z, ap length a, length-append (digits s) (46 ∷ digits f))
