-- `salvaging::left::Card::find` meets its contract: what is complete has a block with each number. Assumes nothing.
use Rattle.std.proofs.Common.{◌≡◌, ◌∙◌, true, sym}
use Rattle.table.specs.declared.Fault.TheVariants.{Mismatch}
use Rattle.table.proofs.RuleLaws.{unless_fine}
use Rattle.salvaging.specs.Salvage.{is_complete}
use Rattle.salvaging.proofs.LeftLaws.{left_most, complete_some, complete_placed}
use Rattle.salvaging.proofs.left.Card.find.Goals as goal
use Rattle.salvaging.proofs.left.Card.find.Goals.{In_ok-check_complete}

complete : (c : goal.In_ok-check_complete) → let s = c.args.self.now in is_complete s.input.now s.codes.now ≡ true
complete c =
    let s = c.args.self.now in
    unless_fine (is_complete s.input.now s.codes.now) Mismatch 0 (sym c.check_complete.ensures ∙ c.in_ok-check_complete.was)

pub table-requires : goal.table-requires
table-requires c =
    let s = c.args.self.now in
    let e = complete (goal.at.table-requires c).In_ok-check_complete in
    rw c.left-n.ensures (complete_some s.input.now s.codes.now e, left_most s.codes.now, complete_placed s.input.now s.codes.now e)
