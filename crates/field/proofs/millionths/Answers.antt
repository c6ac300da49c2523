-- `field::millionths` meets its contract. Assumes nothing.
use mathlib.Core.Path.{refl}
use native.Mathlib.Omega.{arith}
use Rattle.field.proofs.DigitLaws.{filled}
use Rattle.field.proofs.millionths.Goals as goal

pub overflow_mul-result : goal.overflow_mul-result
overflow_mul-result c = rw c.pow.ensures (omega (arith, filled c.args.x c.args.digits c.requires.0 c.requires.1))

pub returns : goal.returns
returns c = rw c.pow.ensures (refl, filled c.args.x c.args.digits c.requires.0 c.requires.1)
