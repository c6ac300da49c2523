-- `rounds::Wholes::of` meets its contract. The invariant: the row comes to what the shares so far come to. Assumes nothing.
use Rattle.std.proofs.Common.{◌≤◌}
use Rattle.rounds.specs.Shares.{whole_of}
use Rattle.rounds.specs.Parts.{PartsAre}
use Rattle.rounds.proofs.Wholes.of.Given as goal

abbrev pub invariant-loop-share : goal.invariant-loop-share
invariant-loop-share l = (l.row.n ≤ l.share-index) × PartsAre l.s l.share-index whole_of l.row
