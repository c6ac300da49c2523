-- The laws of the sum of the A largest of a row.
-- Assumes nothing.
use Prim.Native.Nat.{ℕ, zero, suc, ◌+◌, ◌≤◌, max, min}
use mathlib.Core.Path.{◌≡◌, refl, ap, ◌∙◌}
use mathlib.Core.List.{List, [], ◌∷◌}
use native.Mathlib.Nat.{le_refl, max-eq_left, max-eq_right}
use native.Mathlib.Decide.{dec_le}
use native.Mathlib.Omega.{arith}
use lib.ListN.{length, take}
use lib.Seq.{take-nil, take_all}
use Rattle.basics.specs.Largest.{insert_into, falling, sum_of, sum_largest, SumOfAtMost, no_entry, left_out, taken, LargestAgrees, EachAtMost, Descends}
use Rattle.basics.proofs.FallingLaws.{falling_descends, falling_length}

-- ---- the sum of the first A of a falling row

take_sum : (A B : ℕ) (S : List ℕ) → A ≤ B → sum_of (take A S) ≤ sum_of (take B S)
take_sum zero B S h = omega arith
take_sum (suc A) zero S h = absurd (omega arith)
take_sum (suc A) (suc B) [] h = le_refl 0
take_sum (suc A) (suc B) (x ∷ S) h = omega (arith, take_sum A B S (omega arith))

one_more_lem : (A b : ℕ) (S : List ℕ) → EachAtMost b S → sum_of (take (suc A) S) ≤ b + sum_of (take A S)
one_more_lem A b [] m = omega arith
one_more_lem zero b (x ∷ S) m = omega arith
one_more_lem (suc A) b (x ∷ S) m = omega (arith, one_more_lem A b S m.1)

-- with x put in its place: without x, or x and one fewer of the others, whichever is more
insert_sum : (A x : ℕ) (S : List ℕ) → Descends S → sum_of (take (suc A) (insert_into x S)) ≡ max (sum_of (take (suc A) S)) (x + sum_of (take A S))
insert_sum A x [] d = rw take-nil (omega arith)
insert_sum zero x (y ∷ S) d = omega arith
insert_sum (suc A) x (y ∷ S) d = omega (arith, insert_sum A (min x y) S d.1, one_more_lem A y S d.0)

-- ---- one entry more

largest_step : (A x : ℕ) (row : List ℕ) → sum_largest (suc A) (x ∷ row) ≡ max (sum_largest (suc A) row) (x + sum_largest A row)
unfolding sum_largest
largest_step A x row = insert_sum A x (falling row) (falling_descends row)

largest_wider : (A x : ℕ) (row : List ℕ) → sum_largest A row ≤ sum_largest A (x ∷ row)
unfolding sum_largest
largest_wider zero x row = le_refl 0
largest_wider (suc A) x row = omega (arith, largest_step A x row)

-- ---- it is the largest sum

reach : (A : ℕ) (row : List ℕ) → SumOfAtMost A row (sum_largest A row)
unfolding sum_largest
reach A [] = rw take-nil no_entry
reach zero (x ∷ row) = left_out (reach zero row)
reach (suc A) (x ∷ row) = go (dec_le (x + sum_largest A row) (sum_largest (suc A) row)) (reach (suc A) row) (reach A row)
  where
    go : Dec (x + sum_largest A row ≤ sum_largest (suc A) row) → SumOfAtMost (suc A) row (sum_largest (suc A) row) → SumOfAtMost A row (sum_largest A row)
        → SumOfAtMost (suc A) (x ∷ row) (sum_largest (suc A) (x ∷ row))
    go (yes h) without with_it = rw (largest_step A x row, max-eq_left h) (left_out without)
    go (no h) without with_it =
        rw (largest_step A x row, max-eq_right {n = sum_largest (suc A) row} {m = x + sum_largest A row} (omega arith)) (taken with_it)

no_more : (A : ℕ) (row : List ℕ) (r : ℕ) → SumOfAtMost A row r → r ≤ sum_largest A row
no_more _ _ _ no_entry = omega arith
no_more _ _ _ (left_out {A} {x} {s} {row} p) = omega (arith, no_more A row s p, largest_wider A x row)
no_more _ _ _ (taken {A} {x} {s} {row} p) = omega (arith, no_more A row s p, largest_step A x row)

pub largest_agrees : LargestAgrees
largest_agrees A row = record { reached = reach A row; most = no_more A row }

-- ---- of more, and of all

pub largest_more : (A B : ℕ) (row : List ℕ) → A ≤ B → sum_largest A row ≤ sum_largest B row
unfolding sum_largest
largest_more A B row h = take_sum A B (falling row) h

insert_all : (x : ℕ) (S : List ℕ) → sum_of (insert_into x S) ≡ x + sum_of S
insert_all x [] = refl
insert_all x (y ∷ S) = omega (arith, insert_all (min x y) S)

falling_sum : (row : List ℕ) → sum_of (falling row) ≡ sum_of row
falling_sum [] = refl
falling_sum (x ∷ row) = omega (arith, insert_all x (falling row), falling_sum row)

pub largest_all : (A : ℕ) (row : List ℕ) → length row ≤ A → sum_largest A row ≡ sum_of row
unfolding sum_largest
largest_all A row h = ap sum_of (take_all A (falling row) (omega (arith, falling_length row))) ∙ falling_sum row
