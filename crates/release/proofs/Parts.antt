-- An archive and its blocks: the parts of what was joined, what is joined of the parts; and what an accepted archive is.
-- Assumes nothing.
use Prim.Native.Nat.{ℕ, zero, suc, ◌+◌, ◌-◌, ◌*◌, ◌%◌, ◌≤◌, ◌<◌}
use mathlib.Core.Path.{◌≡◌, sym, ap, ◌∙◌}
use mathlib.Core.Bool.{true}
use mathlib.Core.List.{List, ◌++◌, append_assoc, append-nil}
use native.Mathlib.Omega.{arith}
use native.Mathlib.Decide.{dec_lt}
use borrow.Author.Tests.{eq-eqb}
use lib.ListN.{length, drop, length-drop, take-append-drop, drop_of_length-le, get_or-eq_default}
use lib.Seq.{length-take-le, get_or-take, get_or-drop, drop-drop, ext_get_or}
use Rattle.basics.specs.Over.{join_to}
use Rattle.basics.proofs.ChoiceLaws.{within_in}
use Rattle.basics.proofs.JoinLaws.{join_none, join_more, join_at, join_even}
use Rattle.table.specs.declared.Fault.TheVariants.{BadLength, BadBlock, Mismatch}
use Rattle.std.specs.Prelude.{Ok}
use Rattle.table.specs.Limits.{max_tasks}
use Rattle.table.specs.Faults.{unless, first_fault}
use Rattle.table.specs.Rules.{table_fault}
use Rattle.table.proofs.FirstLaws.{then_fine, each_fine, first_fine}
use Rattle.table.proofs.RuleLaws.{unless_fine}
use Rattle.block.specs.Numbers.{byte_at}
use Rattle.block.specs.Block.{good_block}
use Rattle.card.specs.Archive.{block_at, blocks_in, is_length, block_fault, block_fault_at, blocks_fault, table_in, archive_fault}
use Rattle.card.proofs.ArchiveLaws.{length_whole}
use Rattle.release.specs.Undo.{Bytes}
use Rattle.release.specs.Refusals.{Whole, GoodBlock, InPlace, FirstGood}
use Rattle.release.proofs.GoodLaws.{good_is, is_good, agrees_is, is_agreed}

-- ---- the parts

-- block i + 1 of blocks that were joined
pub part_of_lem : (n i : ℕ) (f : ℕ → List ℕ) → ((k : ℕ) → k < n → length (f k) ≡ 512) → i < n → block_at (join_to n f) i ≡ f i
part_of_lem n i f each h =
    let l = join_even n 512 f each in
    let w : length (drop (512 * i) (join_to n f)) ≡ 512 * n - 512 * i = length-drop (512 * i) (join_to n f) ∙ rw l in
    let t : length (block_at (join_to n f) i) ≡ 512 = length-take-le 512 (drop (512 * i) (join_to n f)) (omega arith) in
    ext_get_or 0 (block_at (join_to n f) i) (f i) (t ∙ sym (each i h))
    (λ j m. get_or-take 512 (drop (512 * i) (join_to n f)) j 0 (omega arith) ∙ get_or-drop (512 * i) (join_to n f) j 0 ∙ join_at n 512 i j f 0 each h (omega arith))

-- the blocks of an archive, joined, are the archive
pub parts_joined : (a : List ℕ) (n : ℕ) → length a ≡ 512 * n → join_to n (block_at a) ≡ a
parts_joined a n e = sym (go n (omega arith) ∙ rw (drop_of_length-le a {i = 512 * n} (omega arith), append-nil))
  where
    go : (k : ℕ) → k ≤ n → a ≡ join_to k (block_at a) ++ drop (512 * k) a
    go zero h = rw join_none
    go (suc k) h =
        let s : suc k ≡ k + 1 = omega arith in
        let d : 512 * (k + 1) ≡ 512 * k + 512 = omega arith in
        go k (omega arith)
        ∙ ap (λ (z : List ℕ). join_to k (block_at a) ++ z) (sym (take-append-drop 512 (drop (512 * k) a)) ∙ ap (λ (z : List ℕ). block_at a k ++ z) (drop-drop 512 (512 * k) a))
        ∙ rw (s, join_more, append_assoc, d)

-- the bytes of a block are bytes
pub block_bytes : (a : List ℕ) (i : ℕ) → Bytes a → length (block_at a i) ≡ 512 → Bytes (block_at a i)
block_bytes a i bytes l j = go (dec_lt j 512)
  where
    go : Dec (j < 512) → byte_at (block_at a i) j < 256
    go (yes h) = rw (get_or-take 512 (drop (512 * i) a) j 0 h, get_or-drop (512 * i) a j 0) (bytes (512 * i + j))
    go (no h) = rw (get_or-eq_default (block_at a i) 0 {n = j} (omega arith)) (omega arith)

-- ---- lengths and blocks, as tests and as facts

pub whole_blocks : {a : List ℕ} {n : ℕ} → Whole a n → blocks_in a ≡ n
whole_blocks w = omega (arith, w.long)

pub whole_is : (a : List ℕ) → is_length (length a) ≡ true → Whole a (blocks_in a)
whole_is a e = let w = length_whole (length a) e in record { long = w.0; least = w.1; most = w.2 }

pub is_whole : (a : List ℕ) (n : ℕ) → Whole a n → is_length (length a) ≡ true
unfolding is_length
is_whole a n w =
    let q = whole_blocks w in
    rw (eq-eqb (length a % 512) 0 (omega (arith, w.long)), q, within_in 1 max_tasks n w.least w.most)

module _ (a : List ℕ) (i : ℕ) where
  pub block_good : block_fault_at a i ≡ Ok tt → GoodBlock (block_at a i) × InPlace a (blocks_in a) i
  unfolding block_fault
  block_good e =
      let p = then_fine (unless (good_block (block_at a i)) BadBlock (i + 1)) _ e in
      (good_is (block_at a i) (unless_fine _ BadBlock (i + 1) p.0), agrees_is a (blocks_in a) i (unless_fine _ Mismatch (i + 1) p.1))

  pub block_fine : GoodBlock (block_at a i) → InPlace a (blocks_in a) i → block_fault_at a i ≡ Ok tt
  unfolding block_fault
  block_fine g p = rw (is_good (block_at a i) g, is_agreed a (blocks_in a) i p)

-- ---- an accepted archive

-- an archive against which nothing is said
pub record Kept (a : List ℕ) : Type 0 where
  pub whole : Whole a (blocks_in a)
  pub good : FirstGood a (blocks_in a) (blocks_in a)
  pub table : table_fault (table_in a) ≡ Ok tt

pub fine_kept : (a : List ℕ) → archive_fault a ≡ Ok tt → Kept a
unfolding archive_fault blocks_fault
fine_kept a e =
    let p = then_fine (unless (is_length (length a)) BadLength 0) _ e in
    let q = then_fine (first_fault (blocks_in a) (block_fault_at a)) (table_fault (table_in a)) p.1 in
    record {
      whole = whole_is a (unless_fine _ BadLength 0 p.0);
      good = λ j h. block_good a j (each_fine (blocks_in a) (block_fault_at a) q.0 j h);
      table = q.1;
    }

pub kept_fine : (a : List ℕ) → Kept a → archive_fault a ≡ Ok tt
unfolding archive_fault blocks_fault
kept_fine a k =
    rw (
      is_whole a (blocks_in a) k.whole,
      first_fine (blocks_in a) (block_fault_at a) (λ j h. block_fine a j (k.good j h).0 (k.good j h).1),
      k.table,
    )
