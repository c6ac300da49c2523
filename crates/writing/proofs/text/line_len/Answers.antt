use mathlib.Core.Path.{◌≡◌}
use mathlib.Core.List.{[]}
use native.Mathlib.Omega.{arith}
use lib.ListN.{length-append, drop_of_length-le}
use Rattle.basics.specs.Text.{ending}
use Rattle.writing.proofs.LineLaws.{fields_from, ending_next}
use Rattle.writing.proofs.text.line_len.Goals as goal

pub loop-field-init : goal.loop-field-init
loop-field-init c = (omega arith, omega (arith, length-append c.args.word.now (ending (fields_from 0 c.args.fields.now))))

pub loop-field-preserved : goal.loop-field-preserved
loop-field-preserved c =
    let l = c.loop-field in
    let e = ending_next l.field-index c.args.fields.now _ c.loop-field-test.true c.len.ensures.value in
    (omega (arith, c.len.ensures.upper_bound), omega arith)

pub returns : goal.returns
returns c =
    let l = c.loop-field in
    let e : fields_from l.field-index c.args.fields.now ≡ [] = rw (drop_of_length-le c.args.fields.now {i = l.field-index} c.loop-field-test.false) in
    let i = rw e at l.invariant.1 in
    record { value = omega arith; upper_bound = omega arith }
