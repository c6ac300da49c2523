-- There is room for the archive of every accepted listing.
-- Assumes nothing.
use Prim.Native.Nat.{ℕ, ◌*◌, ◌≤◌}
use mathlib.Core.Path.{◌≡◌, refl}
use mathlib.Core.List.{List}
use native.Mathlib.Omega.{arith}
use borrow.Author.Tests.{le-leb}
use Rattle.table.specs.Faults.{Checked, ◌then◌}
use Rattle.std.specs.Prelude.{Ok, Err}
use Rattle.table.specs.Rules.{table_fault}
use Rattle.table.proofs.Chain.{wrote_is, given_is}
use Rattle.table.proofs.FirstLaws.{then_fine}
use Rattle.table.proofs.Acceptance.{fine_accepted}
use Rattle.listing.specs.Read.{read_listing}
use Rattle.meaning.proofs.Meaning.{passes_check}
use Rattle.block.specs.Block.{block_size}
use Rattle.card.specs.Archive.{archiving_fault}
use Rattle.archive.specs.Archiving.{max_archive, from_listing, from_listing_fault}
use Rattle.table.specs.Answers.{answer_of, table_from}

-- a check after which nothing is said
last : (a : Checked) → (a then Ok tt) ≡ a
last (Ok _) = refl
last (Err r) = refl

module _ (s : List ℕ) (e : answer_of (read_listing s) ≡ Ok tt) where
  table_fine : table_fault (table_from (read_listing s)) ≡ Ok tt
  table_fine = passes_check s (table_from (read_listing s)) (given_is (read_listing s) e)

  archive_most : block_size * (table_from (read_listing s)).n ≤ max_archive
  archive_most = omega (arith, (fine_accepted (table_from (read_listing s)) table_fine).tasks_most)

  -- what is said against writing it: only 20, which comes before 11
  pub archive_room : (room : ℕ) → max_archive ≤ room → archiving_fault (table_from (read_listing s)) room ≡ from_listing_fault s
  unfolding archiving_fault from_listing_fault
  archive_room room h = rw (table_fine, e, le-leb (block_size * (table_from (read_listing s)).n) room (omega (arith, archive_most))) (last _)

-- and what is written is within the output
pub archive_fits : (s : List ℕ) (k : ℕ) → from_listing s ≡ Ok k → k ≤ max_archive
unfolding from_listing from_listing_fault
archive_fits s k e = let w = wrote_is (from_listing_fault s) e in omega (arith, w.1, archive_most s (then_fine (answer_of (read_listing s)) _ w.0).0)
