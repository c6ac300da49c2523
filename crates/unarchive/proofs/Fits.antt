-- There is room for the listing of every accepted archive.
-- Assumes nothing.
use Prim.Native.Nat.{ℕ, ◌≤◌}
use mathlib.Core.Path.{◌≡◌}
use mathlib.Core.List.{List}
use native.Mathlib.Omega.{arith}
use lib.ListN.{length}
use borrow.Author.Tests.{le-leb}
use Rattle.std.specs.Prelude.{Ok}
use Rattle.table.specs.Rules.{table_fault}
use Rattle.table.proofs.Chain.{wrote_is, given_is}
use Rattle.writing.specs.Write.{text_of, write_fault}
use Rattle.writing.specs.Longest.{max_text}
use Rattle.writing.proofs.LongestText.{longest_text}
use Rattle.card.specs.Archive.{read_archive}
use Rattle.card.proofs.ReadLaws.{accepted_passes}
use Rattle.unarchive.specs.Unarchiving.{from_card}
use Rattle.table.specs.Answers.{answer_of, table_from}

module _ (a : List ℕ) (e : answer_of (read_archive a) ≡ Ok tt) where
  table_fine : table_fault (table_from (read_archive a)) ≡ Ok tt
  table_fine = accepted_passes a (table_from (read_archive a)) (given_is (read_archive a) e)

  -- nothing is said against writing it
  pub listing_room : (room : ℕ) → max_text ≤ room → write_fault (table_from (read_archive a)) room ≡ Ok tt
  unfolding write_fault
  listing_room room h = rw (table_fine, le-leb (length (text_of (table_from (read_archive a)))) room (omega (arith, longest_text.most (table_from (read_archive a)) table_fine)))

-- and what is written is within the output
pub listing_fits : (a : List ℕ) (k : ℕ) → from_card a ≡ Ok k → k ≤ max_text
unfolding from_card
listing_fits a k e =
    let w = wrote_is (answer_of (read_archive a)) e in
    omega (arith, w.1, longest_text.most (table_from (read_archive a)) (table_fine a w.0))
