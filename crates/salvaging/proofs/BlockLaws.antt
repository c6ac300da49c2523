-- A block of the input as it is handed on.
-- Assumes nothing.
use Prim.Native.Nat.{ℕ, ◌+◌, ◌-◌, ◌*◌}
use mathlib.Core.Path.{◌≡◌}
use mathlib.Core.List.{List}
use native.Mathlib.Omega.{arith}
use lib.ListN.{take, drop}
use Rattle.card.specs.Archive.{block_at}

-- `&s[512 * i..512 * i + 512]`
pub part_is : (s : List ℕ) (i : ℕ) → take (512 * i + 512 - 512 * i) (drop (512 * i) s) ≡ block_at s i
part_is s i = let e : 512 * i + 512 - 512 * i ≡ 512 = omega arith in rw e
