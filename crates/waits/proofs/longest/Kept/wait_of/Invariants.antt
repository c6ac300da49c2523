-- `waits::longest::Kept::wait_of` meets its contract. The loop's invariant: the sum is that of the first k resources, and small. Assumes nothing.
use mathlib.Core.Path.{◌≡◌}
use Prim.Native.Nat.{◌*◌, ◌≤◌}
use lib.ListN.{take}
use Rattle.basics.specs.Over.{sum_to}
use Rattle.theory.specs.Groups.{max_requests}
use Rattle.waits.specs.Kept.{max_others, wait_on}
use Rattle.waits.proofs.longest.Kept.wait_of.Given as goal

abbrev pub invariant-loop-k : goal.invariant-loop-k
invariant-loop-k l = (l.sum ≤ l.k * (max_requests * max_others)) × (l.sum ≡ sum_to l.k (wait_on (take l.self.n l.self.of) l.x.alpha l.x))
