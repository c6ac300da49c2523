-- Numbers that are kept: one after the other, and some after others.
-- Assumes nothing.
use Prim.Native.Nat.{ℕ}
use mathlib.Core.Path.{◌≡◌, refl, sym, ap, ◌∙◌}
use mathlib.Core.List.{List, [], ◌∷◌, ◌++◌}
use native.Mathlib.Nat.{le_refl}
use native.Mathlib.Omega.{arith}
use lib.ListN.{take, length-take}
use lib.Seq.{take_all, take-take}
use Rattle.basics.specs.Largest.{insert_into, falling, Descends}
use Rattle.basics.proofs.FallingLaws.{insert_descends, take_descends, insert_take}
use Rattle.waits.specs.Kept.{max_kept, insert_each, KeptRow, KeptWith}

each_descends : (xs S : List ℕ) → Descends S → Descends (insert_each xs S)
each_descends [] S d = d
each_descends (x ∷ xs) S d = insert_descends x (insert_each xs S) (each_descends xs S d)

each_take : (m : ℕ) (xs S : List ℕ) → take m (insert_each xs (take m S)) ≡ take m (insert_each xs S)
each_take m [] S = take-take m m S (le_refl m)
each_take m (x ∷ xs) S =
    sym (insert_take m x (insert_each xs (take m S)))
    ∙ ap (λ (l : List ℕ). take m (insert_into x l)) (each_take m xs S)
    ∙ insert_take m x (insert_each xs S)

each_append : (xs ys S : List ℕ) → insert_each (xs ++ ys) S ≡ insert_each xs (insert_each ys S)
each_append [] ys S = refl
each_append (x ∷ xs) ys S = ap (insert_into x) (each_append xs ys S)

pub each_falling : (xs : List ℕ) → insert_each xs [] ≡ falling xs
each_falling [] = refl
each_falling (x ∷ xs) = ap (insert_into x) (each_falling xs)

-- none more
pub kept_none : {kept : List ℕ} {n : ℕ} → KeptRow kept n → KeptWith [] kept n n kept
kept_none {kept} {n} k =
    record { long = k.long; few = k.few; first = sym (take_all max_kept (take n kept) (omega (arith, length-take n kept, k.few))) }

-- ys, and then xs
pub kept_both : {xs ys e mid exit : List ℕ} {n m r : ℕ} → KeptWith ys e n m mid → KeptWith xs mid m r exit → KeptWith (xs ++ ys) e n r exit
kept_both {xs} {ys} {e} {mid} {exit} {n} a b =
    record {
      long = b.long;
      few = b.few;
      first =
          b.first
          ∙ ap (λ (l : List ℕ). take max_kept (insert_each xs l)) a.first
          ∙ each_take max_kept xs (insert_each ys (take n e))
          ∙ ap (take max_kept) (sym (each_append xs ys (take n e)));
    }

pub kept_row : {xs e exit : List ℕ} {n r : ℕ} → Descends (take n e) → KeptWith xs e n r exit → KeptRow exit r
kept_row {xs} {e} {exit} {n} d k =
    record { long = k.long; few = k.few; falls = rw k.first (take_descends max_kept (insert_each xs (take n e)) (each_descends xs (take n e) d)) }
