-- What is written is an archive made of the input's blocks (specs/Recovered.antt).
-- Assumes nothing.
use Prim.Native.Nat.{ℕ, ◌<◌}
use mathlib.Core.Path.{◌≡◌, sym, ap, ◌∙◌}
use mathlib.Core.List.{List}
use native.Mathlib.Omega.{arith}
use lib.ListN.{length}
use lib.Seq.{take_at}
use Rattle.std.specs.Prelude.{Ok}
use Rattle.table.specs.Rules.{table_fault}
use Rattle.table.proofs.Chain.{wrote_is}
use Rattle.table.proofs.Acceptance.{fine_accepted}
use Rattle.block.specs.Numbers.{byte_at}
use Rattle.card.specs.Archive.{block_at, blocks_in, table_in, read_archive}
use Rattle.release.specs.Refusals.{GoodBlock, InPlace}
use Rattle.release.proofs.Parts.{Kept, kept_fine}
use Rattle.salvaging.specs.Fates.{codes_of}
use Rattle.salvaging.specs.Salvage.{head_left, mended, salvage_fault, salvage_answer, salvaged}
use Rattle.recovery.specs.Refusals.{Complete}
use Rattle.recovery.specs.Recovered.{written_of, Readable, NothingInvented}
use Rattle.recovery.proofs.CardLaws.{Sound, fine_sound}
use Rattle.recovery.proofs.Complete.{place_in, complete_is, placed, mended_length, mended_block}

-- ---- what is written is an archive

module _ (s : List ℕ) (n : ℕ) (c : Complete s (blocks_in s) n) where
  blocks_are : blocks_in (mended s) ≡ n
  blocks_are = omega (arith, mended_length s n c)

  -- its bytes are those of the block with its number
  byte_is : (p b : ℕ) → p < n → byte_at (block_at (mended s) p) b ≡ byte_at (block_at s (place_in s p)) b
  byte_is p b h = ap (λ (x : List ℕ). byte_at x b) (mended_block s n c p h)

  in_place : (p : ℕ) → p < n → InPlace (mended s) n p
  in_place p h =
      let x = placed s n c p h in
      let y = placed s n c 0 (omega arith) in
      let t = byte_is p 4 h ∙ c.tasks (place_in s p) x.0 x.1 in
      record {
        cpus = byte_is p 3 h ∙ c.cpus (place_in s p) (place_in s 0) x.0 y.0 x.1 y.1 ∙ sym (byte_is 0 3 (omega arith));
        n_first = t ∙ sym (byte_is 0 4 (omega arith) ∙ c.tasks (place_in s 0) y.0 y.1);
        n_blocks = t;
        number = byte_is p 5 h ∙ x.2;
      }

  mended_good : (p : ℕ) → p < n → GoodBlock (block_at (mended s) p)
  mended_good p h = rw (mended_block s n c p h) (placed s n c p h).1.0

  mended_kept : table_fault (table_in (mended s)) ≡ Ok tt → Kept (mended s)
  unfolding table_in
  mended_kept e =
      let g = fine_accepted (table_in (mended s)) e in
      record {
        whole = record { least = g.tasks_least; most = g.tasks_most; long = omega (arith, mended_length s n c) };
        good = rw blocks_are (λ p h. (mended_good p h, in_place p h));
        table = e;
      }

-- ---- what is written

module _ (s out : List ℕ) (entries l : ℕ) (e : salvage_answer s entries (length out) ≡ Ok l) where
  wrote : (salvage_fault s entries (length out) ≡ Ok tt) × (length (mended s) ≡ l)
  unfolding salvage_answer
  wrote = wrote_is (salvage_fault s entries (length out)) e

  written_is : written_of s entries out l ≡ mended s
  unfolding salvaged
  written_is = rw wrote.0 (take_at (mended s) _ l wrote.1)

  sound : Sound s entries (length out)
  sound = fine_sound s entries (length out) wrote.0

pub readable : Readable
unfolding read_archive
readable s out entries l e =
    let x = sound s out entries l e in
    rw (written_is s out entries l e, kept_fine (mended s) (mended_kept s _ (complete_is s x.complete) x.table))

pub nothing_invented : NothingInvented
nothing_invented s out entries l e =
    let n : ℕ = (head_left s (codes_of s)).n in
    let c = complete_is s (sound s out entries l e).complete in
    rw (written_is s out entries l e) (λ p h. let k : p < n = omega (arith, blocks_are s n c) in (place_in s p, (placed s n c p k).0, mended_block s n c p k))
