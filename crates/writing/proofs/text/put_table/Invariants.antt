-- `writing::text::put_table` meets its contract. The loop's invariant: the output is filled with the lines before the tasks and the lines of the tasks passed. Assumes nothing.
use mathlib.Core.List.{◌++◌}
use Rattle.basics.specs.Over.{join_to}
use Rattle.basics.proofs.FillLaws.{Filled}
use Rattle.writing.proofs.WriteLaws.{head_of, lines_of}
use Rattle.writing.proofs.text.put_table.Given as goal

abbrev pub invariant-loop-i : goal.invariant-loop-i
invariant-loop-i l = Filled l.fn.out l.out (head_of l.t ++ join_to l.i (lines_of l.t)) l.at
