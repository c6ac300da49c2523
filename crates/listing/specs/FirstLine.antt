-- The line at a place. No reader has to believe this: only the contract of a private function cites it.
use Rattle.std.specs.Prelude.{ℕ, List, [], ◌∷◌, eqb}
use Rattle.basics.specs.Choice.{pick}

-- the line that s starts with: up to its LF, or the end
abbrev pub line : List ℕ → List ℕ
line [] = []
line (b ∷ s) = pick (eqb b 10) [] (b ∷ line s)
