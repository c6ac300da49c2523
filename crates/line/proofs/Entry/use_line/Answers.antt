-- `line::Entry::use_line` meets its contract. Each number is read where its field begins. Assumes nothing.
use Rattle.std.proofs.Common.{◌≡◌, ap, ◌∙◌, rules, Err}
use lib.Dec.{lit≤}
use Rattle.basics.specs.Text.{bytes}
use Rattle.field.specs.declared.Rounding.TheVariants.{Up}
use Rattle.line.specs.Line.{use_line}
use Rattle.line.proofs.FieldLaws.{form_second, counts, times, bad_field, states, steps}
use Rattle.line.proofs.Entry.use_line.Goals as goal

pub returns-in_err-k : goal.returns-in_err-k
unfolding use_line
returns-in_err-k c =
    let word = form_second (bytes "use") 3 _ (lit≤ tt) c.requires in
    let bad = bad_field counts _ word c.in_err-k.ensures c.in_err-k.ensures.1.says.met.0 in
    let r : c.from_residual.result ≡ Err c.in_err-k.field-0.0 = search rules in
    rw bad.0 (r ∙ ap Err bad.1)

pub returns-in_err-requests : goal.returns-in_err-requests
unfolding use_line
returns-in_err-requests c =
    let word = form_second (bytes "use") 3 _ (lit≤ tt) c.requires in
    let k = steps counts _ word c.in_ok-k.ensures c.in_ok-k.ensures.1.says.met.0 in
    let bad = bad_field counts _ k.1 c.in_err-requests.ensures c.in_err-requests.ensures.1.says.met.0 in
    let r : c.from_residual-in_err-requests.result ≡ Err c.in_err-requests.field-0.0 = search rules in
    rw (k.0.says, bad.0) (r ∙ ap Err bad.1)

pub returns-in_err-longest : goal.returns-in_err-longest
unfolding use_line
returns-in_err-longest c =
    let word = form_second (bytes "use") 3 _ (lit≤ tt) c.requires in
    let k = steps counts _ word c.in_ok-k.ensures c.in_ok-k.ensures.1.says.met.0 in
    let requests = steps counts _ k.1 c.in_ok-requests.ensures c.in_ok-requests.ensures.1.says.met.0 in
    let bad = bad_field (times Up) _ requests.1 c.in_err-longest.ensures c.in_err-longest.ensures.1.says.met.0 in
    let r : c.from_residual-in_err-longest.result ≡ Err c.in_err-longest.field-0.0 = search rules in
    rw (k.0.says, requests.0.says, bad.0) (r ∙ ap Err bad.1)

pub returns-in_err-total : goal.returns-in_err-total
unfolding use_line
returns-in_err-total c =
    let word = form_second (bytes "use") 3 _ (lit≤ tt) c.requires in
    let k = steps counts _ word c.in_ok-k.ensures c.in_ok-k.ensures.1.says.met.0 in
    let requests = steps counts _ k.1 c.in_ok-requests.ensures c.in_ok-requests.ensures.1.says.met.0 in
    let longest = steps (times Up) _ requests.1 c.in_ok-longest.ensures c.in_ok-longest.ensures.1.says.met.0 in
    let bad = bad_field (times Up) _ longest.1 c.in_err-total.ensures c.in_err-total.ensures.1.says.met.0 in
    let r : c.from_residual-in_err-total.result ≡ Err c.in_err-total.field-0.0 = search rules in
    rw (k.0.says, requests.0.says, longest.0.says, bad.0) (r ∙ ap Err bad.1)

pub returns : goal.returns
unfolding use_line
returns c =
    let word = form_second (bytes "use") 3 _ (lit≤ tt) c.requires in
    let k = steps counts _ word c.in_ok-k.ensures c.in_ok-k.ensures.1.says.met.0 in
    let requests = steps counts _ k.1 c.in_ok-requests.ensures c.in_ok-requests.ensures.1.says.met.0 in
    let longest = steps (times Up) _ requests.1 c.in_ok-longest.ensures c.in_ok-longest.ensures.1.says.met.0 in
    let total = states (times Up) _ longest.1 c.in_ok-total.ensures c.in_ok-total.ensures.1.says.met.0 in
    rw (k.0.says, requests.0.says, longest.0.says, total.says) c.use_said.ensures
