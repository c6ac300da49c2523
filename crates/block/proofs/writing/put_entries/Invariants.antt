-- `block::writing::put_entries` meets its contract. The loop's invariant: the output is filled with the entries of the resources passed. Assumes nothing.
use Prim.Native.Nat.{◌*◌}
use Rattle.basics.specs.Over.{join_to}
use Rattle.basics.proofs.FillLaws.{Filled}
use Rattle.table.specs.At.{pair_of}
use Rattle.block.specs.Block.{entry_bytes}
use Rattle.block.proofs.writing.put_entries.Given as goal

abbrev pub invariant-loop-k : goal.invariant-loop-k
invariant-loop-k l = Filled l.fn.out l.out (join_to l.k (λ j. entry_bytes (pair_of l.x j))) (10 * l.k)
