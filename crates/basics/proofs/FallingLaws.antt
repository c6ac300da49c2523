-- The laws of a row in falling order, and of a number that is put in its place there.
-- Assumes nothing.
use Prim.Native.Nat.{ℕ, zero, suc, ◌≤◌, max, min}
use mathlib.Core.Path.{◌≡◌, refl, ap, ◌∙◌}
use mathlib.Core.List.{List, [], ◌∷◌}
use native.Mathlib.Nat.{max-eq_left, min-eq_right}
use native.Mathlib.Omega.{arith}
use lib.ListN.{length, take}
use Rattle.basics.specs.Largest.{insert_into, falling, EachAtMost, Descends}

pub at_most_more : (a b : ℕ) (S : List ℕ) → a ≤ b → EachAtMost a S → EachAtMost b S
at_most_more a b [] h m = tt
at_most_more a b (x ∷ S) h m = (omega arith, at_most_more a b S h m.1)

insert_most : (x b : ℕ) (S : List ℕ) → x ≤ b → EachAtMost b S → EachAtMost b (insert_into x S)
insert_most x b [] h m = (h, tt)
insert_most x b (y ∷ S) h m = (omega arith, insert_most (min x y) b S (omega arith) m.1)

pub insert_descends : (x : ℕ) (S : List ℕ) → Descends S → Descends (insert_into x S)
insert_descends x [] d = (tt, tt)
insert_descends x (y ∷ S) d =
    (insert_most (min x y) (max x y) S (omega arith) (at_most_more y (max x y) S (omega arith) d.0), insert_descends (min x y) S d.1)

pub falling_descends : (row : List ℕ) → Descends (falling row)
falling_descends [] = tt
falling_descends (x ∷ row) = insert_descends x (falling row) (falling_descends row)

pub take_descends : (m : ℕ) (S : List ℕ) → Descends S → Descends (take m S)
take_descends zero S d = tt
take_descends (suc m) [] d = tt
take_descends (suc m) (x ∷ S) d = (few m S d.0, take_descends m S d.1)
  where
    few : (m : ℕ) (S : List ℕ) → EachAtMost x S → EachAtMost x (take m S)
    few zero S e = tt
    few (suc m) [] e = tt
    few (suc m) (y ∷ S) e = (e.0, few m S e.1)

-- a number that is no smaller than any other stands in front
pub insert_front : (x : ℕ) (S : List ℕ) → EachAtMost x S → Descends S → insert_into x S ≡ x ∷ S
insert_front x [] m d = refl
insert_front x (y ∷ S) m d =
    rw (max-eq_left {n = x} {m = y} m.0, min-eq_right {n = y} {m = x} m.0)
    (ap {B = List ℕ} (λ (l : List ℕ). x ∷ l) (insert_front y S d.0 d.1))

-- the first m of a row are made by the first m of it
pub insert_take : (m x : ℕ) (S : List ℕ) → take m (insert_into x (take m S)) ≡ take m (insert_into x S)
insert_take zero x S = refl
insert_take (suc m) x [] = refl
insert_take (suc m) x (y ∷ S) = ap {B = List ℕ} (λ (l : List ℕ). max x y ∷ l) (insert_take m (min x y) S)

pub insert_length : (x : ℕ) (S : List ℕ) → length (insert_into x S) ≡ suc (length S)
insert_length x [] = refl
insert_length x (y ∷ S) = ap suc (insert_length (min x y) S)

pub falling_length : (row : List ℕ) → length (falling row) ≡ length row
falling_length [] = refl
falling_length (x ∷ row) = insert_length x (falling row) ∙ ap suc (falling_length row)
