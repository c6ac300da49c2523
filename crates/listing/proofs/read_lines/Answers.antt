use Rattle.std.proofs.Common.{◌≡◌, ◌+◌, sym, ap, ◌∙◌, Err, rules}
use Rattle.basics.proofs.FillLaws.{whole_part}
use Rattle.listing.specs.Read.{no_lines, read_end}
use Rattle.listing.proofs.ReadLaws.{left_start, left_end, next_not, next_room, next_fits, next_left}
use Rattle.listing.proofs.read_lines.Goals as goal

pub loop-end-init : goal.loop-end-init
loop-end-init c =
    let e = c.default-past.ensures in
    let none : c.default-past.result ≡ no_lines = search rules in
    rw none (left_start _ _ c.requires c.empty-table.ensures)

pub returns-in_err-said : goal.returns-in_err-said
returns-in_err-said c =
    let l = c.in-Some.ensures in
    let r : c.from_residual.result ≡ Err c.in_err-said.field-0.0 = search rules in
    r ∙ next_not c.loop-end.invariant l.0 l.1 c.line_of.ensures c.in_err-said.was

pub enter-requires : goal.enter-requires
enter-requires c = let l = c.in-Some.ensures in next_room c.loop-end.invariant l.0 l.1 c.line_of.ensures c.in_ok-said.was

pub after-past-requires : goal.after-past-requires
after-past-requires c = let l = c.in-Some.ensures in next_fits c.loop-end.invariant l.0 l.1 c.line_of.ensures c.in_ok-said.was

pub loop-end-preserved : goal.loop-end-preserved
loop-end-preserved c =
    let l = c.in-Some.ensures in
    next_left c.loop-end.invariant l.0 l.1 c.line_of.ensures c.in_ok-said.was c.enter.ensures c.after-past.ensures (whole_part c.loop-end.rest.now (c.in-Some.end + 1))

pub returns-in_err-at_end : goal.returns-in_err-at_end
returns-in_err-at_end c =
    let t = c.loop-end.table in
    let r : c.from_residual-in_err-at_end.result ≡ Err c.in_err-at_end.field-0.0 = search rules in
    r ∙ sym (c.in_err-at_end.ensures t) ∙ ap (read_end t c.loop-end.past c.loop-end.number) c.is_empty.ensures ∙ left_end c.loop-end.invariant c.in_default.ensures

pub returns : goal.returns
returns c =
    let t = c.loop-end.table in
    sym (c.in_ok-at_end.ensures t) ∙ ap (read_end t c.loop-end.past c.loop-end.number) c.is_empty.ensures ∙ left_end c.loop-end.invariant c.in_default.ensures
