-- `checksum::check_of` meets its contract. The loop's invariant: the sum is that of the pairs passed. Assumes nothing.
use mathlib.Core.Path.{◌≡◌}
use Rattle.checksum.specs.Sum.{ones_sum}
use Rattle.checksum.proofs.check_of.Given as goal

abbrev pub invariant-loop-pair : goal.invariant-loop-pair
invariant-loop-pair l = l.sum ≡ ones_sum l.pair-index l.s
