-- `salvage::text::put_lines` meets its contract. The loop's invariant: the output is filled with the lines of the entries passed. Assumes nothing.
use Rattle.basics.specs.Over.{join_to}
use Rattle.basics.proofs.FillLaws.{Filled}
use Rattle.salvage.specs.Telling.{code_line}
use Rattle.salvage.proofs.text.put_lines.Given as goal

abbrev pub invariant-loop-i : goal.invariant-loop-i
invariant-loop-i l = Filled l.initial.out l.out (join_to l.i (code_line l.list)) l.at
