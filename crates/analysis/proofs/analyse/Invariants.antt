-- `analysis::analyse` meets its contract. The loop's invariant: the row's first i records are those of the first i tasks, and the others are as they were. Assumes nothing.
use Rattle.std.proofs.Common.{◌≡◌, ◌++◌, drop}
use Rattle.basics.specs.Over.{row_to}
use Rattle.analysis.specs.Answers.{record_of}
use Rattle.analysis.proofs.analyse.Given as goal

abbrev pub invariant-loop-i : goal.invariant-loop-i
invariant-loop-i l = l.row ≡ row_to l.i (record_of l.fn.t l.allowance) ++ drop l.i l.initial.row
