-- "Sum the A largest (all, if fewer)", of a row: said in two ways.
use Rattle.std.specs.Prelude.{ℕ, suc, ◌+◌, ◌≤◌, max, min, List, [], ◌∷◌, take}

-- ---- as it is worked out: the row in falling order, and the sum of its first A

-- a number put in its place in a falling row: at each place the larger stays and the smaller goes on
abbrev pub insert_into : ℕ → List ℕ → List ℕ
insert_into x [] = x ∷ []
insert_into x (y ∷ ys) = max x y ∷ insert_into (min x y) ys

abbrev pub falling : List ℕ → List ℕ
falling [] = []
falling (x ∷ xs) = insert_into x (falling xs)

abbrev pub sum_of : List ℕ → ℕ
sum_of [] = 0
sum_of (x ∷ xs) = x + sum_of xs

unfoldable pub sum_largest : ℕ → List ℕ → ℕ
sum_largest A row = sum_of (take A (falling row))

-- ---- and as the largest sum that at most A of the row's entries have, each taken once

-- s is the sum of at most A of the row's entries, each taken once
pub data SumOfAtMost : ℕ → List ℕ → ℕ → Type 0 where
  no_entry : {A : ℕ} → SumOfAtMost A [] 0
  left_out : {A x s : ℕ} {row : List ℕ} → SumOfAtMost A row s → SumOfAtMost A (x ∷ row) s
  taken : {A x s : ℕ} {row : List ℕ} → SumOfAtMost A row s → SumOfAtMost (suc A) (x ∷ row) (x + s)

pub record IsLargest (A : ℕ) (row : List ℕ) (s : ℕ) : Type 0 where
  pub reached : SumOfAtMost A row s
  pub most : (r : ℕ) → SumOfAtMost A row r → r ≤ s

abbrev pub LargestAgrees : Type 0
LargestAgrees = (A : ℕ) (row : List ℕ) → IsLargest A row (sum_largest A row)

-- ---- a row is in falling order: no entry is larger than one before it

-- no entry is larger than b
abbrev pub EachAtMost : ℕ → List ℕ → Type 0
EachAtMost b [] = Unit {0}
EachAtMost b (x ∷ xs) = (x ≤ b) × EachAtMost b xs

abbrev pub Descends : List ℕ → Type 0
Descends [] = Unit {0}
Descends (x ∷ xs) = EachAtMost x xs × Descends xs
