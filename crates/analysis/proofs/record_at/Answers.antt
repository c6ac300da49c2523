-- `analysis::record_at` meets its contract: a task's number is one more than its slot. Assumes nothing.
use native.Mathlib.Numerals.{add-one}
use native.Mathlib.Omega.{arith}
use Rattle.analysis.specs.Answers.{record_by}
use Rattle.analysis.proofs.record_at.Goals as goal

pub returns : goal.returns
unfolding record_by
returns c = rw (add-one, c.counted_at-x.ensures)

pub overflow_cast-result : goal.overflow_cast-result
overflow_cast-result c = omega (arith, c.requires.0.tasks_most)
