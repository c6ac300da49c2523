-- `shares::waiting` meets its contract. The invariant: the sum is that of the first k resources, or the most. Assumes nothing.
use Rattle.std.proofs.Common.{◌≡◌, min}
use Rattle.basics.specs.Over.{sum_to}
use Rattle.rounds.specs.Outcome.{max_wait}
use Rattle.shares.specs.Pass.{wait_at}
use Rattle.shares.proofs.waiting.Given as goal

abbrev pub invariant-loop-k : goal.invariant-loop-k
invariant-loop-k l = l.sum ≡ min max_wait (sum_to l.k (wait_at l.peaks l.a))
