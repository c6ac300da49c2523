-- Numbers in bytes: two of them read, and how many are put.
-- Assumes nothing.
use Prim.Native.Nat.{ℕ, zero, suc, ◌+◌, ◌*◌, ◌/◌, ◌%◌}
use mathlib.Core.Path.{◌≡◌, refl, ◌∙◌}
use mathlib.Core.List.{List, [], ◌∷◌}
use native.Mathlib.Omega.{arith}
use native.Mathlib.Nat.{add-zero}
use lib.ListN.{length, length-append}
use Rattle.block.specs.Numbers.{in_bytes, byte_at, number_at}

-- ---- a number is read

pub number_two : (s : List ℕ) (i : ℕ) → byte_at s i * 256 + byte_at s (i + 1) ≡ number_at s i 2
unfolding number_at
number_two s i = rw add-zero (omega arith)

-- ---- a number is put

pub bytes_length : (k x : ℕ) → length (in_bytes k x) ≡ k
unfolding in_bytes
bytes_length zero x = refl
bytes_length (suc k) x = length-append (in_bytes k (x / 256)) (x % 256 ∷ []) ∙ omega (arith, bytes_length k (x / 256))
