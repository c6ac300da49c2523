-- Laws of a listing's lines, as the code meets them: at a place i of s, and of the first line and the rest.
-- Assumes nothing.
use Prim.Native.Nat.{ℕ, suc, ◌+◌, ◌≤◌, ◌<◌}
use mathlib.Core.Path.{◌≡◌, refl, ap}
use mathlib.Core.Bool.{Bool, true, false, cond, not}
use mathlib.Core.List.{List, [], ◌∷◌}
use native.Mathlib.Omega.{arith}
use lib.ListN.{length, take, drop}
use lib.Dec.{eqb}
use Rattle.std.specs.List.{position_or_len}
use Rattle.basics.specs.Choice.{pick}
use Rattle.listing.specs.Lines.{onto, lines, ends_in_LF}
use Rattle.listing.specs.FirstLine.{line}

-- ---- the length of a line is the place of its LF

pub line_position : (s : List ℕ) → position_or_len (λ b. eqb b 10) s ≡ length (line s)
line_position [] = refl
line_position (b ∷ s) = go (eqb b 10) (line_position s)
  where
    go : (u : Bool) → position_or_len (λ b. eqb b 10) s ≡ length (line s) → cond (not u) (1 + position_or_len (λ b. eqb b 10) s) 0 ≡ length (pick u [] (b ∷ line s))
    go true e = refl
    go false e = omega arith

-- ---- the first line and the rest

pub line_within : (t : List ℕ) → length (line t) ≤ length t
line_within [] = omega arith
line_within (b ∷ t) = go (eqb b 10) (line_within t)
  where
    go : (u : Bool) → length (line t) ≤ length t → length (pick u [] (b ∷ line t)) ≤ suc (length t)
    go true h = omega arith
    go false h = omega arith

pub line_take : (t : List ℕ) → take (length (line t)) t ≡ line t
line_take [] = refl
line_take (b ∷ t) = go (eqb b 10) (line_take t)
  where
    go : (u : Bool) → take (length (line t)) t ≡ line t → take (length (pick u [] (b ∷ line t))) (b ∷ t) ≡ pick u [] (b ∷ line t)
    go true h = refl
    go false h = ap (λ (r : List ℕ). b ∷ r) h

-- a line that its LF ends: it is the first, and the rest follows
pub lines_more : (t : List ℕ) → length (line t) < length t → lines t ≡ line t ∷ lines (drop (suc (length (line t))) t)
lines_more [] h = absurd (omega arith)
lines_more (b ∷ t) h = go (eqb b 10) h (lines_more t)
  where
    go : (u : Bool) → length (pick u [] (b ∷ line t)) < suc (length t) → (length (line t) < length t → lines t ≡ line t ∷ lines (drop (suc (length (line t))) t)) → pick u ([] ∷ lines t) (onto b (lines t)) ≡ pick u [] (b ∷ line t) ∷ lines (drop (suc (length (pick u [] (b ∷ line t)))) (b ∷ t))
    go true k ih = refl
    go false k ih = rw (ih (omega arith))

pub ends_in_LF_more : (c : Bool) (t : List ℕ) → length (line t) < length t → ends_in_LF c t ≡ ends_in_LF true (drop (suc (length (line t))) t)
ends_in_LF_more c [] h = absurd (omega arith)
ends_in_LF_more c (b ∷ t) h = go (eqb b 10) h (ends_in_LF_more false t)
  where
    go : (u : Bool) → length (pick u [] (b ∷ line t)) < suc (length t) → (length (line t) < length t → ends_in_LF false t ≡ ends_in_LF true (drop (suc (length (line t))) t)) → ends_in_LF u t ≡ ends_in_LF true (drop (suc (length (pick u [] (b ∷ line t)))) (b ∷ t))
    go true k ih = refl
    go false k ih = ih (omega arith)

-- no LF: no line, and the text does not end in one
pub lines_none : (t : List ℕ) → length (line t) ≡ length t → lines t ≡ []
lines_none [] h = refl
lines_none (b ∷ t) h = go (eqb b 10) h (lines_none t)
  where
    go : (u : Bool) → length (pick u [] (b ∷ line t)) ≡ suc (length t) → (length (line t) ≡ length t → lines t ≡ []) → pick u ([] ∷ lines t) (onto b (lines t)) ≡ []
    go true k ih = absurd (omega arith)
    go false k ih = rw (ih (omega arith))

ends_in_LF_none : (t : List ℕ) → length (line t) ≡ length t → ends_in_LF false t ≡ false
ends_in_LF_none [] h = refl
ends_in_LF_none (b ∷ t) h = go (eqb b 10) h (ends_in_LF_none t)
  where
    go : (u : Bool) → length (pick u [] (b ∷ line t)) ≡ suc (length t) → (length (line t) ≡ length t → ends_in_LF false t ≡ false) → ends_in_LF u t ≡ false
    go true k ih = absurd (omega arith)
    go false k ih = ih (omega arith)

pub ends_in_LF_open : (c : Bool) (t : List ℕ) → length (line t) ≡ length t → 0 < length t → ends_in_LF c t ≡ false
ends_in_LF_open c [] h l = absurd (omega arith)
ends_in_LF_open c (b ∷ t) h l = go (eqb b 10) h
  where
    go : (u : Bool) → length (pick u [] (b ∷ line t)) ≡ suc (length t) → ends_in_LF u t ≡ false
    go true k = absurd (omega arith)
    go false k = ends_in_LF_none t (omega arith)
