-- `put::fraction_len` meets its contract. Assumes nothing.
use native.Mathlib.Omega.{arith}
use Rattle.put.proofs.TimeLaws.{fraction_length}
use Rattle.put.proofs.fraction_len.Goals as goal

pub returns-in_default : goal.returns-in_default
returns-in_default c = let f = c.fraction_of in fraction_length c.args.x f.result.0 f.result.1 f.ensures.0 (λ z. omega arith)
