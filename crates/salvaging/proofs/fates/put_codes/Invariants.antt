-- `salvaging::fates::put_codes` meets its contract. The loop's invariant: the codes of the blocks passed are in their places. Assumes nothing.
use Rattle.std.proofs.Common.{◌≡◌, ◌++◌, drop}
use Rattle.basics.specs.Over.{row_to}
use Rattle.salvaging.specs.Fates.{code_at}
use Rattle.salvaging.proofs.fates.put_codes.Given as goal

abbrev pub invariant-loop-i : goal.invariant-loop-i
invariant-loop-i l = l.codes ≡ row_to l.i (code_at l.input) ++ drop l.i l.fn.codes
