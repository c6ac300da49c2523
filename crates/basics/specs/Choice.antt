-- A choice by a test.
use Rattle.std.specs.Prelude.{ℕ, Bool, true, false, ◌&&◌, leb}

-- the first where the test holds, else the second
abbrev pub pick : {A : Type 0} → Bool → A → A → A
pick true a b = a
pick false a b = b

-- x where the test holds, else 0
abbrev pub only : Bool → ℕ → ℕ
only true x = x
only false x = 0

-- x is from low to high
abbrev pub within : ℕ → ℕ → ℕ → Bool
within low high x = leb low x && leb x high
