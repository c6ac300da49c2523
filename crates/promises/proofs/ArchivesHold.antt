-- Request 2/12 holds.
-- Assumes nothing.
use Prim.Native.Nat.{ℕ, ◌*◌, ◌≤◌}
use mathlib.Core.Path.{◌≡◌, sym, ap, ◌∙◌}
use mathlib.Core.List.{List}
use lib.ListN.{length}
use borrow.Author.Tests.{le-leb}
use Rattle.table.specs.declared.Table.{Table}
use Rattle.table.specs.Answers.{table_from, accepted}
use Rattle.std.specs.Prelude.{Ok}
use Rattle.table.specs.At.{NoGroup}
use Rattle.table.specs.Rules.{table_fault}
use Rattle.table.proofs.GroupLaws.{no_group_is}
use Rattle.table.specs.Cleared.{cleared}
use Rattle.listing.specs.Read.{read_listing}
use Rattle.meaning.proofs.Meaning.{passes_check as listing-passes}
use Rattle.meaning.proofs.Back.{reads_back as text-back, rewrites}
use Rattle.block.specs.Block.{block_size}
use Rattle.card.specs.Archive.{archive_of, archiving_fault, archiving_answer, archiving, read_archive}
use Rattle.card.proofs.ArchiveLaws.{archive_length}
use Rattle.release.specs.Undo.{Bytes}
use Rattle.release.proofs.Undo.{reads_back, drops_alpha, alpha_alone, writes_again, same_archive, one_archive, reads_none, reads_ungrouped, passes_check}
use Rattle.release.proofs.Noticed.{noticed}
use Rattle.promises.specs.Words.{Writes}
use Rattle.promises.specs.Archives.{Archives}

-- the table of a listing, and that of an archive, has zeros past the nth task already
listing_clear : (s : List ℕ) (t : Table) → read_listing s ≡ accepted t → cleared t ≡ t
listing_clear s t e = ap table_from (sym (text-back t (listing-passes s t e)) ∙ rewrites s t e)

card_clear : (a : List ℕ) (t : Table) → Bytes a → read_archive a ≡ accepted t → cleared t ≡ t
card_clear a t bytes e = ap table_from (sym (reads_back t (passes_check a t e) (reads_none a t e) (reads_ungrouped a t e)) ∙ ap read_archive (writes_again a t bytes e) ∙ e)

-- the output of an archive, where there is room
archive_written : (t : Table) (out : List ℕ) → table_fault t ≡ Ok tt → NoGroup t → block_size * t.n ≤ length out → Writes (archive_of t) out (archiving_answer t (length out)) (archiving t out)
unfolding archiving_fault archiving_answer archiving
archive_written t out e z h =
    let g = (no_group_is t).1 z in
    let r = le-leb (block_size * t.n) (length out) h in
    record { wrote = rw (e, g, r, archive_length t); output = rw (e, g, r) }

pub archives_hold : Archives
archives_hold =
    record {
      written_archive = archive_written;
      reads_back = reads_back;
      drops_alpha = drops_alpha;
      alpha_alone = alpha_alone;
      writes_again = writes_again;
      same_archive = same_archive;
      one_archive = one_archive;
      reads_none = reads_none;
      reads_ungrouped = reads_ungrouped;
      passes_check = passes_check;
      noticed = noticed;
      from_listing = λ s t e none ungrouped. reads_back t (listing-passes s t e) none ungrouped ∙ ap accepted (listing_clear s t e);
      from_card = λ a t bytes e. (text-back t (passes_check a t e) ∙ ap accepted (card_clear a t bytes e), writes_again a t bytes e);
    }
