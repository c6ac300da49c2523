-- Request 2/12: "numbers big-endian".
use Rattle.std.specs.Prelude.{ℕ, zero, suc, ◌+◌, ◌*◌, ◌/◌, ◌%◌, List, [], ◌∷◌, ◌++◌, get_or}

-- the number x in k bytes, the highest first; of a number that does not fit, its last k bytes
unfoldable pub in_bytes : ℕ → ℕ → List ℕ
in_bytes zero x = []
in_bytes (suc k) x = in_bytes k (x / 256) ++ (x % 256 ∷ [])

-- the byte at a place; 0 past the end
abbrev pub byte_at : List ℕ → ℕ → ℕ
byte_at s i = get_or s i 0

-- the number that stands in k bytes from a place on
unfoldable pub number_at : List ℕ → ℕ → ℕ → ℕ
number_at s at zero = 0
number_at s at (suc k) = number_at s at k * 256 + byte_at s (at + k)
