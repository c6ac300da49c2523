-- Numbers in bytes: those that were put are read, and those that were read are put back.
-- Assumes nothing.
use Prim.Native.Nat.{ℕ, zero, suc, ◌+◌, ◌*◌, ◌/◌, ◌%◌, ◌≤◌, ◌<◌}
use mathlib.Core.Path.{◌≡◌, refl, ◌∙◌}
use mathlib.Core.List.{List, ◌++◌}
use native.Mathlib.Omega.{arith}
use native.Mathlib.Nat.{le_refl, add-zero, add-suc}
use lib.ListN.{length, drop}
use lib.Seq.{drop-cons, append_snoc}
use Rattle.block.specs.Numbers.{in_bytes, byte_at, number_at}
use Rattle.release.specs.Undo.{Bytes}

-- ---- a number is read

-- the same bytes, the same number
pub number_eq : (s u : List ℕ) (a b k : ℕ) → ((j : ℕ) → j < k → byte_at s (a + j) ≡ byte_at u (b + j)) → number_at s a k ≡ number_at u b k
unfolding number_at
number_eq s u a b zero each = refl
number_eq s u a b (suc k) each = rw (number_eq s u a b k (λ j h. each j (omega arith)), each k (le_refl (suc k)))

-- of one, two and four bytes, which make a number that fits
pub one_back : (x : ℕ) → x < 256 → x % 256 ≡ x
one_back x h = omega arith

pub two_back : (x : ℕ) → x < 65_536 → number_at (in_bytes 2 x) 0 2 ≡ x
unfolding number_at in_bytes
two_back x h = omega arith

pub four_back : (x : ℕ) → x < 4_294_967_296 → number_at (in_bytes 4 x) 0 4 ≡ x
unfolding number_at in_bytes
four_back x h = omega arith

-- ---- a number is put back

module _ (s : List ℕ) (bytes : Bytes s) where
  -- what stands from a place on is the number in its k bytes, and what stands behind them
  pub put_back : (at k : ℕ) → at + k ≤ length s → drop at s ≡ in_bytes k (number_at s at k) ++ drop (at + k) s
  unfolding in_bytes number_at
  put_back at zero h = rw add-zero
  put_back at (suc k) h =
      let b = bytes (at + k) in
      let x = number_at s at k in
      let q : (x * 256 + byte_at s (at + k)) / 256 ≡ x = omega arith in
      let r : (x * 256 + byte_at s (at + k)) % 256 ≡ byte_at s (at + k) = omega arith in
      put_back at k (omega arith)
      ∙ rw (drop-cons s (at + k) 0 (omega arith), q, r, add-suc, append_snoc)
