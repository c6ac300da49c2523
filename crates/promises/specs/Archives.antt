-- Request 2/12 of document 02: the archive on the release card, and what it keeps of request 8/12's alphas; of a table with request 9/12's groups none is written. When an archive is refused, and with what, is in demand 1.
use Rattle.std.specs.Prelude.{◌≡◌, List, length, ℕ, ◌*◌, ◌≤◌, Ok}
use Rattle.table.specs.declared.Table.{Table}
use Rattle.table.specs.At.{NoAlpha, NoGroup}
use Rattle.table.specs.Rules.{table_fault}
use Rattle.table.specs.Answers.{accepted}
use Rattle.listing.specs.Read.{read_listing}
use Rattle.writing.specs.Write.{text_of}
use Rattle.block.specs.Block.{block_size}
use Rattle.card.specs.Archive.{archive_of, archiving_answer, archiving, read_archive}
use Rattle.release.specs.Undo.{Bytes, ReadsBack, DropsAlpha, AlphaAlone, WritesAgain, SameArchive, OneArchive, ReadsNone, ReadsUngrouped, PassesCheck, Noticed}
use Rattle.promises.specs.Words.{Writes}

pub record Archives : Type 0 where
  -- what is written of an accepted table without groups, where there is room, is its archive, and past it the output is as it was
  pub written_archive : (t : Table) (out : List ℕ) → table_fault t ≡ Ok tt → NoGroup t → block_size * t.n ≤ length out → Writes (archive_of t) out (archiving_answer t (length out)) (archiving t out)
  -- "Writer and reader are both wanted, each undoing the other": the archive of an accepted table without alpha and without groups is read as that table, with zeros past the nth task
  pub reads_back : ReadsBack
  -- request 8/12, "The archive drops it": of a table with alphas it is read as the same table without them, and tables that differ in alpha alone have one archive
  pub drops_alpha : DropsAlpha
  pub alpha_alone : AlphaAlone
  -- and an accepted archive, its table written again, is the same bytes
  pub writes_again : WritesAgain
  -- "one archive for one table"
  pub same_archive : SameArchive
  pub one_archive : OneArchive
  -- what a reading accepts has no alpha and no group, and the check of a table accepts it
  pub reads_none : ReadsNone
  pub reads_ungrouped : ReadsUngrouped
  pub passes_check : PassesCheck
  -- one changed byte never goes unnoticed
  pub noticed : Noticed
  -- from a listing to the card and back: the archive of an accepted listing's table, if it has no alpha and no group, is read as that very table,
  pub from_listing : (s : List ℕ) (t : Table) → read_listing s ≡ accepted t → NoAlpha t → NoGroup t → read_archive (archive_of t) ≡ accepted t
  -- and the listing of an accepted archive's table is read as that very table, whose archive is the same bytes
  pub from_card : (a : List ℕ) (t : Table) → Bytes a → read_archive a ≡ accepted t → (read_listing (text_of t) ≡ accepted t) × (archive_of t ≡ a)
