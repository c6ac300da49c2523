-- `shares::used_by` meets its contract. Assumes nothing.
use Rattle.std.proofs.Common.{false, rules, tests}
use Rattle.table.specs.Empty.{unused_pair}
use Rattle.shares.proofs.used_by.Goals as goal

pub returns : goal.returns
returns c = record { each = λ k h. let called = (c.map.ensures.items.at k unused_pair false h).2 in search (rules, tests) }
