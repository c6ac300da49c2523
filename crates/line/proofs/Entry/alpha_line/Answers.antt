-- `line::Entry::alpha_line` meets its contract. The count at place 6 is the second field. Assumes nothing.
use Rattle.std.proofs.Common.{◌≡◌, ap, ◌∙◌, rules, Err}
use lib.Dec.{lit≤}
use Rattle.basics.specs.Text.{bytes}
use Rattle.line.specs.Line.{alpha_line}
use Rattle.line.proofs.FieldLaws.{form_second, counts, bad_field, states}
use Rattle.line.proofs.Entry.alpha_line.Goals as goal

pub returns-in_err-alpha : goal.returns-in_err-alpha
unfolding alpha_line
returns-in_err-alpha c =
    let word = form_second (bytes "alpha") 0 _ (lit≤ tt) c.requires in
    let bad = bad_field counts _ word c.in_err-alpha.ensures c.in_err-alpha.ensures.1.says.met.0 in
    let r : c.from_residual.result ≡ Err c.in_err-alpha.field-0.0 = search rules in
    rw bad.0 (r ∙ ap Err bad.1)

pub returns : goal.returns
unfolding alpha_line
returns c =
    let word = form_second (bytes "alpha") 0 _ (lit≤ tt) c.requires in
    let alpha = states counts _ word c.in_ok-alpha.ensures c.in_ok-alpha.ensures.1.says.met.0 in
    rw alpha.says c.alpha_said.ensures
