-- The numbers for another resource than the one at slot k: those of a row in falling order are in falling order, and of enough numbers kept the first A are those of all.
-- Assumes nothing.
use Prim.Native.Nat.{ℕ, zero, suc, ◌+◌, ◌/◌, ◌%◌, ◌≤◌}
use mathlib.Core.Path.{◌≡◌, refl, sym, ap, ◌∙◌}
use mathlib.Core.Bool.{Bool, true, false}
use mathlib.Core.List.{List, [], ◌∷◌, ◌++◌}
use native.Mathlib.Nat.{le_refl, max-eq_right, min-eq_left}
use native.Mathlib.Decide.{dec_le}
use native.Mathlib.Omega.{arith}
use lib.Dec.{eqb}
use lib.ListN.{length, take}
use Rattle.basics.specs.Choice.{pick}
use Rattle.basics.specs.Largest.{insert_into, falling, EachAtMost, Descends}
use Rattle.basics.proofs.FallingLaws.{at_most_more, falling_descends, insert_front}
use Rattle.waits.specs.Kept.{key_slots, others_kept}

module _ (k : ℕ) where
  pub others_append : (xs ys : List ℕ) → others_kept k (xs ++ ys) ≡ others_kept k xs ++ others_kept k ys
  others_append [] ys = refl
  others_append (x ∷ xs) ys = go (eqb (x % key_slots) k) (others_kept k (xs ++ ys)) (others_kept k xs) (others_append xs ys)
    where
      go : (b : Bool) (l r : List ℕ) → l ≡ r ++ others_kept k ys → pick b l (x / key_slots ∷ l) ≡ pick b r (x / key_slots ∷ r) ++ others_kept k ys
      go true l r e = e
      go false l r e = ap {B = List ℕ} (λ (s : List ℕ). x / key_slots ∷ s) e

  others_few : (S : List ℕ) → length (others_kept k S) ≤ length S
  others_few [] = le_refl 0
  others_few (x ∷ S) = go (eqb (x % key_slots) k) (others_kept k S) (others_few S)
    where
      go : (b : Bool) (l : List ℕ) → length l ≤ length S → length (pick b l (x / key_slots ∷ l)) ≤ suc (length S)
      go true l h = omega arith
      go false l h = omega arith

  -- ---- a falling row

  others_most : (b : ℕ) (S : List ℕ) → EachAtMost b S → EachAtMost (b / key_slots) (others_kept k S)
  others_most b [] m = tt
  others_most b (x ∷ S) m = go (eqb (x % key_slots) k) (others_kept k S) (others_most b S m.1)
    where
      go : (t : Bool) (l : List ℕ) → EachAtMost (b / key_slots) l → EachAtMost (b / key_slots) (pick t l (x / key_slots ∷ l))
      go true l e = e
      go false l e = (omega (arith, m.0), e)

  others_descend : (S : List ℕ) → Descends S → Descends (others_kept k S)
  others_descend [] d = tt
  others_descend (x ∷ S) d = go (eqb (x % key_slots) k) (others_kept k S) (others_most x S d.0) (others_descend S d.1)
    where
      go : (t : Bool) (l : List ℕ) → EachAtMost (x / key_slots) l → Descends l → Descends (pick t l (x / key_slots ∷ l))
      go true l m e = e
      go false l m e = (m, e)

  -- a number put in its place in it
  others_insert : (x : ℕ) (S : List ℕ) → Descends S
      → others_kept k (insert_into x S) ≡ pick (eqb (x % key_slots) k) (others_kept k S) (insert_into (x / key_slots) (others_kept k S))
  others_insert x [] d = refl
  others_insert x (y ∷ S) d = side (dec_le x y) (others_insert x S d.1)
    where
      behind : (t u : Bool) (a b : ℕ) (l : List ℕ) → a ≤ b
          → pick u (pick t l (insert_into a l)) (b ∷ pick t l (insert_into a l)) ≡ pick t (pick u l (b ∷ l)) (insert_into a (pick u l (b ∷ l)))
      behind true true a b l h = refl
      behind true false a b l h = refl
      behind false true a b l h = refl
      behind false false a b l h = rw (max-eq_right h, min-eq_left h)

      before : (t : Bool) (a : ℕ) (l : List ℕ) → insert_into a l ≡ a ∷ l → pick t l (a ∷ l) ≡ pick t l (insert_into a l)
      before true a l e = refl
      before false a l e = sym e

      side : Dec (x ≤ y) → others_kept k (insert_into x S) ≡ pick (eqb (x % key_slots) k) (others_kept k S) (insert_into (x / key_slots) (others_kept k S))
          → others_kept k (insert_into x (y ∷ S))
          ≡ pick (eqb (x % key_slots) k) (others_kept k (y ∷ S)) (insert_into (x / key_slots) (others_kept k (y ∷ S)))
      side (yes h) ih =
          rw (max-eq_right h, min-eq_left h, ih)
          (behind (eqb (x % key_slots) k) (eqb (y % key_slots) k) (x / key_slots) (y / key_slots) (others_kept k S) (omega arith))
      side (no h) ih =
          let m : EachAtMost x (y ∷ S) = (omega arith, at_most_more y x S (omega arith) d.0) in
          let l = others_kept k (y ∷ S) in
          ap (others_kept k) (insert_front x (y ∷ S) m d)
          ∙ before (eqb (x % key_slots) k) (x / key_slots) l (insert_front (x / key_slots) l (others_most x (y ∷ S) m) (others_descend (y ∷ S) d))

  pub others_falling : (E : List ℕ) → others_kept k (falling E) ≡ falling (others_kept k E)
  others_falling [] = refl
  others_falling (x ∷ E) =
      others_insert x (falling E) (falling_descends E) ∙ go (eqb (x % key_slots) k) (others_falling E)
    where
      go : (t : Bool) → others_kept k (falling E) ≡ falling (others_kept k E)
          → pick t (others_kept k (falling E)) (insert_into (x / key_slots) (others_kept k (falling E)))
          ≡ falling (pick t (others_kept k E) (x / key_slots ∷ others_kept k E))
      go true e = e
      go false e = ap (insert_into (x / key_slots)) e

  -- ---- of the first m, if those that are left out and A more are no more than m

  pub others_take : (A m : ℕ) (S : List ℕ) → A + length S ≤ m + length (others_kept k S) → take A (others_kept k (take m S)) ≡ take A (others_kept k S)
  others_take A zero S h =
      let e : A ≡ 0 = omega (arith, others_few S) in
      rw e
  others_take A (suc m) [] h = refl
  others_take A (suc m) (x ∷ S) h = go (eqb (x % key_slots) k) A h (λ B l. others_take B m S l)
    where
      go : (b : Bool) (A : ℕ) → A + suc (length S) ≤ suc m + length (pick b (others_kept k S) (x / key_slots ∷ others_kept k S))
          → ((B : ℕ) → B + length S ≤ m + length (others_kept k S) → take B (others_kept k (take m S)) ≡ take B (others_kept k S))
          → take A (pick b (others_kept k (take m S)) (x / key_slots ∷ others_kept k (take m S))) ≡ take A (pick b (others_kept k S) (x / key_slots ∷ others_kept k S))
      go true A h ih = ih A (omega arith)
      go false zero h ih = refl
      go false (suc A) h ih = ap {B = List ℕ} (λ (l : List ℕ). x / key_slots ∷ l) (ih A (omega arith))
