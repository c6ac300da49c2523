-- The workload's lemma, as the specification says it. In a file of its own, so that a wrong one is refused by the lemma.
-- Assumes nothing.
use Rattle.windows.specs.Sporadic.{InWindows}
use Rattle.windows.proofs.ServedLaws.{served_most}

pub in_windows : InWindows
in_windows = record { most = served_most }
