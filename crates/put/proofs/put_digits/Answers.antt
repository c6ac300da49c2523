use mathlib.Core.Path.{◌∙◌}
use native.Mathlib.Omega.{arith}
use Rattle.put.proofs.TextLaws.{digits_all, digit_put, digit_done}
use Rattle.put.proofs.put_digits.Goals as goal

pub loop-i-init : goal.loop-i-init
loop-i-init c = digits_all c.args.out.now c.args.n

pub loop-i-preserved : goal.loop-i-preserved
loop-i-preserved c = let l = c.loop-i in digit_put l.out l.rest l.i c.loop-i-test.true (omega arith) ∙ l.invariant

pub returns : goal.returns
returns c = let l = c.loop-i in digit_done l.out _ l.rest l.i c.loop-i-test.false l.invariant
