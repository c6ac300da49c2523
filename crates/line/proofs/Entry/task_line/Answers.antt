-- `line::Entry::task_line` meets its contract. Each time is read where its field begins. Assumes nothing.
use Rattle.std.proofs.Common.{◌≡◌, ap, ◌∙◌, rules, Err}
use lib.Dec.{lit≤}
use Rattle.basics.specs.Text.{bytes}
use Rattle.field.specs.declared.Rounding.TheVariants.{Down, Up}
use Rattle.line.specs.Line.{task_line}
use Rattle.line.proofs.FieldLaws.{form_second, times, bad_field, states, steps}
use Rattle.line.proofs.Entry.task_line.Goals as goal

pub returns-in_err-period : goal.returns-in_err-period
unfolding task_line
returns-in_err-period c =
    let word = form_second (bytes "task") 2 _ (lit≤ tt) c.requires in
    let bad = bad_field (times Down) _ word c.in_err-period.ensures c.in_err-period.ensures.1.says.met.0 in
    let r : c.from_residual.result ≡ Err c.in_err-period.field-0.0 = search rules in
    rw bad.0 (r ∙ ap Err bad.1)

pub returns-in_err-run : goal.returns-in_err-run
unfolding task_line
returns-in_err-run c =
    let word = form_second (bytes "task") 2 _ (lit≤ tt) c.requires in
    let period = steps (times Down) _ word c.in_ok-period.ensures c.in_ok-period.ensures.1.says.met.0 in
    let bad = bad_field (times Up) _ period.1 c.in_err-run.ensures c.in_err-run.ensures.1.says.met.0 in
    let r : c.from_residual-in_err-run.result ≡ Err c.in_err-run.field-0.0 = search rules in
    rw (period.0.says, bad.0) (r ∙ ap Err bad.1)

pub returns-in_err-deadline : goal.returns-in_err-deadline
unfolding task_line
returns-in_err-deadline c =
    let word = form_second (bytes "task") 2 _ (lit≤ tt) c.requires in
    let period = steps (times Down) _ word c.in_ok-period.ensures c.in_ok-period.ensures.1.says.met.0 in
    let run = steps (times Up) _ period.1 c.in_ok-run.ensures c.in_ok-run.ensures.1.says.met.0 in
    let bad = bad_field (times Down) _ run.1 c.in_err-deadline.ensures c.in_err-deadline.ensures.1.says.met.0 in
    let r : c.from_residual-in_err-deadline.result ≡ Err c.in_err-deadline.field-0.0 = search rules in
    rw (period.0.says, run.0.says, bad.0) (r ∙ ap Err bad.1)

pub returns : goal.returns
unfolding task_line
returns c =
    let word = form_second (bytes "task") 2 _ (lit≤ tt) c.requires in
    let period = steps (times Down) _ word c.in_ok-period.ensures c.in_ok-period.ensures.1.says.met.0 in
    let run = steps (times Up) _ period.1 c.in_ok-run.ensures c.in_ok-run.ensures.1.says.met.0 in
    let deadline = states (times Down) _ run.1 c.in_ok-deadline.ensures c.in_ok-deadline.ensures.1.says.met.0 in
    rw (period.0.says, run.0.says, deadline.says) c.task_said.ensures
