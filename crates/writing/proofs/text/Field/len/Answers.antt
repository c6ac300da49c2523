-- `writing::text::Field::len` meets its contract. Assumes nothing.
use native.Mathlib.Omega.{arith}
use Rattle.put.proofs.TextLaws.{count_small}
use Rattle.put.proofs.TimeLaws.{time_length}
use Rattle.writing.proofs.text.Field.len.Goals as goal

pub returns-in-Count-clause-upper_bound : goal.returns-in-Count-clause-upper_bound
returns-in-Count-clause-upper_bound c = omega (arith, c.count_len.ensures, count_small c.from.result (omega (arith, c.from.ensures)))

pub returns-in-Time-clause-upper_bound : goal.returns-in-Time-clause-upper_bound
returns-in-Time-clause-upper_bound c = omega (arith, c.time_len.ensures, time_length c.in-Time.us (omega arith))
