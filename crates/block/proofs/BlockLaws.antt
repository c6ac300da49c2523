-- How long the parts of a block are, and the parts put one after the other.
-- Assumes nothing.
use Prim.Native.Nat.{ℕ, ◌+◌, ◌≤◌}
use mathlib.Core.Path.{◌≡◌, refl, sym, ◌∙◌}
use mathlib.Core.List.{List, ◌++◌}
use native.Mathlib.Omega.{arith}
use lib.ListN.{length, drop, length-append, length-replicate}
use Rattle.basics.specs.Over.{join_to}
use Rattle.basics.proofs.FillLaws.{rest_at, back_at, Filled, filled_part}
use Rattle.table.specs.declared.Pair.{Pair}
use Rattle.table.specs.declared.Task.{Task}
use Rattle.checksum.specs.Sum.{check_of}
use Rattle.block.specs.declared.Head.{Head}
use Rattle.block.specs.Numbers.{in_bytes}
use Rattle.block.specs.Block.{head_bytes, times_bytes, entry_bytes, entries_bytes, body_of, block_of}
use Rattle.block.proofs.NumberLaws.{bytes_length}

-- ---- lengths

pub head_length : (h : Head) → length (head_bytes h) ≡ 8
unfolding head_bytes in_bytes
head_length h = refl

pub times_length : (x : Task) → length (times_bytes x) ≡ 12
unfolding times_bytes in_bytes
times_length x = refl

pub entry_length : (p : Pair) → length (entry_bytes p) ≡ 10
unfolding entry_bytes in_bytes
entry_length p = refl

pub entries_length : (x : Task) → length (entries_bytes x) ≡ 160
unfolding entries_bytes entry_bytes in_bytes join_to
entries_length x = refl

pub body_length : (h : Head) (x : Task) → length (body_of h x) ≡ 510
unfolding body_of
body_length h x =
    simp length-append (omega (arith, head_length h, times_length x, entries_length x, length-replicate {A = ℕ} 330 0))

pub block_length : (h : Head) (x : Task) → length (block_of h x) ≡ 512
unfolding block_of
block_length h x = length-append (body_of h x) _ ∙ omega (arith, body_length h x, bytes_length 2 (check_of (body_of h x)))

-- ---- a part at the start of an output, and one behind what is there

pub put_first : (o t : List ℕ) {o₁ : List ℕ} {k : ℕ} → length t ≡ k → length o₁ ≡ length o → o₁ ≡ t ++ drop k o → Filled o o₁ t k
put_first o t n l e = record { holds = e; long = n; kept = l }

pub put_next : {o o₁ p : List ℕ} {a : ℕ} → Filled o o₁ p a → (t : List ℕ) {ys : List ℕ} {k : ℕ} → length t ≡ k → a ≤ length o → length ys ≡ length (rest_at o₁ a)
    → ys ≡ t ++ drop k (rest_at o₁ a) → Filled o (back_at o₁ a ys) (p ++ t) (a + k)
put_next f t n h l e = filled_part f t h (sym n) l e

pub put_is : {o o₁ p : List ℕ} {a : ℕ} (t : List ℕ) → Filled o o₁ p a → p ≡ t → o₁ ≡ t ++ drop a o
put_is t f e = f.holds ∙ rw e
