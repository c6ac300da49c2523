-- `card::writing::put_blocks` meets its contract. The loop's invariant: the output is filled with the blocks of the tasks passed. Assumes nothing.
use Prim.Native.Nat.{◌*◌}
use Rattle.basics.specs.Over.{join_to}
use Rattle.basics.proofs.FillLaws.{Filled}
use Rattle.card.specs.Archive.{block_for}
use Rattle.card.proofs.writing.put_blocks.Given as goal

abbrev pub invariant-loop-i : goal.invariant-loop-i
invariant-loop-i l = Filled l.fn.out l.out (join_to l.i (block_for l.t)) (512 * l.i)
