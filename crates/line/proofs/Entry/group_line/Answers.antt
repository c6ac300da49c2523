-- `line::Entry::group_line` meets its contract. Each number is read where its field begins. Assumes nothing.
use Rattle.std.proofs.Common.{◌≡◌, ap, ◌∙◌, rules, Err}
use lib.Dec.{lit≤}
use Rattle.basics.specs.Text.{bytes}
use Rattle.line.specs.Line.{group_line}
use Rattle.line.proofs.FieldLaws.{form_second, counts, bad_field, states, steps}
use Rattle.line.proofs.Entry.group_line.Goals as goal

pub returns-in_err-group : goal.returns-in_err-group
unfolding group_line
returns-in_err-group c =
    let word = form_second (bytes "group") 1 _ (lit≤ tt) c.requires in
    let bad = bad_field counts _ word c.in_err-group.ensures c.in_err-group.ensures.1.says.met.0 in
    let r : c.from_residual.result ≡ Err c.in_err-group.field-0.0 = search rules in
    rw bad.0 (r ∙ ap Err bad.1)

pub returns-in_err-k : goal.returns-in_err-k
unfolding group_line
returns-in_err-k c =
    let word = form_second (bytes "group") 1 _ (lit≤ tt) c.requires in
    let group = steps counts _ word c.in_ok-group.ensures c.in_ok-group.ensures.1.says.met.0 in
    let bad = bad_field counts _ group.1 c.in_err-k.ensures c.in_err-k.ensures.1.says.met.0 in
    let r : c.from_residual-in_err-k.result ≡ Err c.in_err-k.field-0.0 = search rules in
    rw (group.0.says, bad.0) (r ∙ ap Err bad.1)

pub returns : goal.returns
unfolding group_line
returns c =
    let word = form_second (bytes "group") 1 _ (lit≤ tt) c.requires in
    let group = steps counts _ word c.in_ok-group.ensures c.in_ok-group.ensures.1.says.met.0 in
    let k = states counts _ group.1 c.in_ok-k.ensures c.in_ok-k.ensures.1.says.met.0 in
    rw (group.0.says, k.says) c.group_said.ensures
