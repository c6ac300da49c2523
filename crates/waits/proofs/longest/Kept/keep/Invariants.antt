-- `waits::longest::Kept::keep` meets its contract. The loop's invariant: what is left is to put y in its place among those from i on. Assumes nothing.
use Rattle.waits.proofs.PlacingLaws.{Placing}
use Rattle.waits.proofs.longest.Kept.keep.Given as goal

abbrev pub invariant-loop-i : goal.invariant-loop-i
invariant-loop-i l = Placing l.initial.self.of l.initial.self.n l.x l.self.of l.self.n l.i l.y
