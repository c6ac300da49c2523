-- `put::width_of` meets its contract. The loop's invariant: n has no fewer digits than the turn tests for, and the power is the last one passed. Assumes nothing.
use Prim.Native.Nat.{◌-◌}
use Rattle.put.proofs.TextLaws.{Wider}
use Rattle.put.proofs.width_of.Given as goal

abbrev pub invariant-loop-k : goal.invariant-loop-k
invariant-loop-k l = Wider l.n (l.k - 1) l.power
