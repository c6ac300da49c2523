-- `shares::split` meets its contract. The invariant: the sums are those of the first k resources, in order, and small. Assumes nothing.
use Rattle.std.proofs.Common.{◌≡◌, ◌*◌, ◌≤◌}
use Rattle.basics.specs.Over.{sum_to}
use Rattle.table.specs.At.{total_of}
use Rattle.shares.specs.Pass.{marked_of}
use Rattle.shares.proofs.split.Given as goal

abbrev pub invariant-loop-k : goal.invariant-loop-k
invariant-loop-k l =
    (l.marked ≡ sum_to l.k (marked_of l.m l.b)) × (l.all ≡ sum_to l.k (total_of l.b)) × (l.marked ≤ l.all) × (l.all ≤ l.k * 4294967295)
