-- The fields of a line: "fields are parted by exactly one space."
use Rattle.std.specs.Prelude.{ℕ, Bool, true, false, ◌&&◌, List, [], ◌∷◌, length, eqb}
use Rattle.basics.specs.Choice.{pick}
use Rattle.field.specs.Number.{apart, first}

-- the fields after the first
abbrev pub others : List ℕ → List (List ℕ)
others [] = []
others (b ∷ s) = pick (apart b) (first s ∷ others s) (others s)

-- all fields of a line
abbrev pub fields : List ℕ → List (List ℕ)
fields s = first s ∷ others s

-- no field is empty
abbrev pub filled : List (List ℕ) → Bool
filled [] = true
filled ([] ∷ ws) = false
filled ((b ∷ w) ∷ ws) = filled ws

-- how many fields, or 0 where one is empty
unfoldable pub field_count : List ℕ → ℕ
field_count s = pick (filled (fields s)) (length (fields s)) 0

-- two texts are the same
abbrev pub same : List ℕ → List ℕ → Bool
same [] [] = true
same [] (y ∷ ys) = false
same (x ∷ xs) [] = false
same (x ∷ xs) (y ∷ ys) = eqb x y && same xs ys

-- a line of k fields, none empty, the first of them the word
abbrev pub form : List ℕ → ℕ → List ℕ → Bool
form word k s = eqb (field_count s) k && same (first s) word
