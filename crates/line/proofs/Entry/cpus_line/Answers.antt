-- `line::Entry::cpus_line` meets its contract. The count at place 5 is the second field. Assumes nothing.
use Rattle.std.proofs.Common.{◌≡◌, ap, ◌∙◌, rules, Err}
use lib.Dec.{lit≤}
use Rattle.basics.specs.Text.{bytes}
use Rattle.line.specs.Line.{cpus_line}
use Rattle.line.proofs.FieldLaws.{form_second, counts, bad_field, states}
use Rattle.line.proofs.Entry.cpus_line.Goals as goal

pub returns-in_err-m : goal.returns-in_err-m
unfolding cpus_line
returns-in_err-m c =
    let b = bad_field counts _ (form_second (bytes "cpus") 0 _ (lit≤ tt) c.requires) c.in_err-m.ensures c.in_err-m.ensures.1.says.met.0 in
    let r : c.from_residual.result ≡ Err c.in_err-m.field-0.0 = search rules in
    rw b.0 (r ∙ ap Err b.1)

pub returns-in_err-check : goal.returns-in_err-check
unfolding cpus_line
returns-in_err-check c =
    let m = states counts _ (form_second (bytes "cpus") 0 _ (lit≤ tt) c.requires) c.in_ok-m.ensures c.in_ok-m.ensures.1.says.met.0 in
    let r : c.from_residual-in_err-check.result ≡ Err c.in_err-check.field-0.0 = search rules in
    rw (m.says, ← c.in_range.ensures, ← c.in_err-check.ensures) r

pub returns : goal.returns
unfolding cpus_line
returns c =
    let m = states counts _ (form_second (bytes "cpus") 0 _ (lit≤ tt) c.requires) c.in_ok-m.ensures c.in_ok-m.ensures.1.says.met.0 in
    rw (m.says, ← c.in_range.ensures, ← c.in_ok-check.ensures)
