-- The lines of a listing: "Lines end in LF".
use Rattle.std.specs.Prelude.{ℕ, Bool, List, [], ◌∷◌, eqb}
use Rattle.basics.specs.Choice.{pick}

-- a byte more in front of the first line, if there is one
abbrev pub onto : ℕ → List (List ℕ) → List (List ℕ)
onto b [] = []
onto b (l ∷ ls) = (b ∷ l) ∷ ls

-- the lines of a listing that end in LF, each without it
abbrev pub lines : List ℕ → List (List ℕ)
lines [] = []
lines (b ∷ s) = pick (eqb b 10) ([] ∷ lines s) (onto b (lines s))

-- whether the last line of s ends in LF; `closed` says it of an empty s
abbrev pub ends_in_LF : Bool → List ℕ → Bool
ends_in_LF closed [] = closed
ends_in_LF closed (b ∷ s) = ends_in_LF (eqb b 10) s
