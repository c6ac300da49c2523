-- A walk over the blocks of an archive, by `chunks_exact`.
-- Assumes nothing.
use Prim.Native.Nat.{ℕ, ◌+◌, ◌*◌, ◌≤◌, ◌<◌}
use mathlib.Core.Path.{◌≡◌, sym, ap, ◌∙◌}
use mathlib.Core.List.{List, ◌++◌}
use native.Mathlib.Omega.{arith}
use lib.ListN.{length, take, drop, length-append, length-drop}
use lib.Seq.{take_at, drop_at, drop-drop}
use Rattle.block.specs.Block.{block_size}
use Rattle.card.specs.Archive.{block_at, blocks_in}

-- k blocks of a are passed, and rest is what is left, by blocks of this size
pub record Passed (a : List ℕ) (k : ℕ) (rest : List ℕ) (size : ℕ) : Type 0 where
  pub within : block_size * k ≤ length a
  pub rest_is : rest ≡ drop (block_size * k) a
  pub size_is : size ≡ block_size

pub none_passed : {a rest : List ℕ} {k size : ℕ} → k ≡ 0 → rest ≡ a → size ≡ block_size → Passed a k rest size
none_passed e f g = record { within = omega (arith, e); rest_is = f ∙ rw e; size_is = g }

-- the next one is block k + 1, and then it is passed too
module _ {a rest : List ℕ} {k size : ℕ} (p : Passed a k rest size) (s left : List ℕ) (e : (rest ≡ s ++ left) × (length s ≡ size)) where
  pub next_is : s ≡ block_at a k
  next_is = sym (take_at s left 512 (e.1 ∙ p.size_is)) ∙ ap (take 512) (sym e.0 ∙ p.rest_is)

  pub next_passed : {m next : ℕ} → m ≡ k + 1 → next ≡ size → Passed a m left next
  next_passed f g =
      let n : 512 * (k + 1) ≡ 512 * k + 512 = omega arith in
      record {
        within = omega (arith, f, ap length e.0, length-append s left, ap length p.rest_is, length-drop (512 * k) a, p.within, e.1, p.size_is);
        rest_is = sym (drop_at s left 512 (e.1 ∙ p.size_is)) ∙ ap (drop 512) (sym e.0 ∙ p.rest_is) ∙ drop-drop 512 (512 * k) a ∙ rw (f, n);
        size_is = g ∙ p.size_is;
      }

-- all are, where less than a block is left
pub all_passed : {a rest : List ℕ} {k size : ℕ} → Passed a k rest size → length rest < size → k ≡ blocks_in a
all_passed {a} {rest} {k} p h = omega (arith, h, p.within, p.size_is, ap length p.rest_is, length-drop (512 * k) a)
