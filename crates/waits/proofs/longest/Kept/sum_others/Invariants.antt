-- `waits::longest::Kept::sum_others` meets its contract. The loop's invariant: some of those from i on are left to be added, which end at `end` where none of them is passed over, and the sum is small. Assumes nothing.
use Prim.Native.Nat.{◌-◌, ◌*◌, ◌^◌, ◌≤◌}
use Rattle.waits.proofs.SummingLaws.{Going}
use Rattle.waits.proofs.longest.Kept.sum_others.Given as goal

abbrev pub invariant-loop-i : goal.invariant-loop-i
invariant-loop-i l = record { few : l.i ≤ l.self.n; small : l.sum ≤ l.i * 2 ^ 28; going : Going l.self.of l.self.n l.alpha l.k l.sum l.end l.i }

abbrev pub decreases-loop-i : goal.decreases-loop-i
decreases-loop-i l = l.self.n - l.i
