-- `writing::text::put_task` meets its contract. The loop's invariant: the output is filled with the task's own lines and the lines of the pairs passed. Assumes nothing.
use mathlib.Core.List.{◌++◌}
use Rattle.basics.specs.Over.{join_to}
use Rattle.basics.proofs.FillLaws.{Filled}
use Rattle.writing.specs.Write.{own_text, pair_text}
use Rattle.writing.proofs.text.put_task.Given as goal

abbrev pub invariant-loop-k : goal.invariant-loop-k
invariant-loop-k l = Filled l.fn.out l.out (own_text l.x ++ join_to l.k (pair_text l.x)) l.at
