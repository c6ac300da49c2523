-- `salvaging::left::Card::put_in_order` meets its contract. The loop's invariant: the output is filled with the blocks of the numbers passed. Assumes nothing.
use Prim.Native.Nat.{◌*◌}
use Rattle.basics.proofs.FillLaws.{Filled}
use Rattle.salvaging.specs.Salvage.{in_order}
use Rattle.salvaging.proofs.left.Card.put_in_order.Given as goal

abbrev pub invariant-loop-p : goal.invariant-loop-p
invariant-loop-p l = Filled l.fn.out l.out (in_order l.self.input.now l.self.codes.now l.p) (512 * l.p)
