-- `waits::given` meets its contract: the merged pairs of an accepted table are in bounds. Assumes nothing.
use Rattle.theory.proofs.MergeLaws.{merged_bounds}
use Rattle.waits.proofs.given.Goals as goal

pub waits_of-requires : goal.waits_of-requires
waits_of-requires c = rw c.requires.1 (merged_bounds c.args.t.now c.requires.0)
