-- `rounds::Parts::load` meets its contract. The invariant: the sum so far. Assumes nothing.
use Rattle.std.proofs.Common.{◌≡◌, ◌*◌, ◌≤◌}
use Rattle.table.specs.Limits.{max_time}
use Rattle.rounds.specs.Parts.{loads}
use Rattle.rounds.proofs.Parts.load.Given as goal

abbrev pub invariant-loop-part : goal.invariant-loop-part
invariant-loop-part g l = (l.sum ≡ loads l.part-items l.part-index l.t) × (l.sum ≤ l.part-index * max_time)
