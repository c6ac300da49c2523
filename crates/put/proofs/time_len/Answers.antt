-- `put::time_len` meets its contract: the width of the whole part, and what stands behind it. Assumes nothing.
use native.Mathlib.Omega.{arith}
use Rattle.put.proofs.TimeLaws.{parts_length, time_length}
use Rattle.put.proofs.time_len.Goals as goal

pub returns : goal.returns
returns c = parts_length c.args.us (rw c.from.ensures at c.width_of.ensures) c.fraction_len.ensures

pub overflow_add-result : goal.overflow_add-result
overflow_add-result c = omega (arith, returns c, time_length c.args.us (omega arith))
