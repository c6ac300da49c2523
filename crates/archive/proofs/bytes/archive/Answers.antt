-- `archive::bytes::archive` meets its contract: the reading decides, then 20, and there is room for what is written. Assumes nothing.
use Rattle.std.proofs.Common.{length, refl, sym, ap, ◌∙◌, rules}
use Rattle.table.specs.Answers.{answer_of, table_from}
use Rattle.card.specs.Archive.{archiving_answer, archiving}
use Rattle.archive.specs.Archiving.{from_listing, from_listing_fault, with_archive}
use Rattle.archive.proofs.Fits.{archive_room}
use Rattle.archive.proofs.bytes.archive.Goals as goal

pub returns-in_err-t : goal.returns-in_err-t
unfolding from_listing from_listing_fault with_archive
returns-in_err-t c = rw (← c.read.ensures, c.in_err-t.was) (search rules, refl)

pub returns : goal.returns
unfolding from_listing with_archive archiving_answer archiving
returns c =
    let q = sym c.read.ensures ∙ c.in_ok-t.was in
    rw (← ap table_from q, archive_room c.args.listing.now (ap answer_of q) (length c.args.out.now) c.requires) at c.write.ensures
