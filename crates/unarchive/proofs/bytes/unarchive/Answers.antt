-- `unarchive::bytes::unarchive` meets its contract: the reading decides, and there is room for what is written. Assumes nothing.
use Rattle.std.proofs.Common.{length, refl, sym, ap, ◌∙◌, rules}
use Rattle.table.specs.Answers.{answer_of, table_from}
use Rattle.writing.specs.Write.{write_answer, written}
use Rattle.unarchive.specs.Unarchiving.{from_card, with_listing}
use Rattle.unarchive.proofs.Fits.{listing_room}
use Rattle.unarchive.proofs.bytes.unarchive.Goals as goal

pub returns-in_err-t : goal.returns-in_err-t
unfolding from_card with_listing
returns-in_err-t c = rw (← c.read.ensures, c.in_err-t.was) (search rules, refl)

pub returns : goal.returns
unfolding from_card with_listing write_answer written
returns c =
    let q = sym c.read.ensures ∙ c.in_ok-t.was in
    let e = ap answer_of q in
    rw e (rw (← ap table_from q, listing_room c.args.archive.now e (length c.args.out.now) c.requires) at c.write.ensures)
