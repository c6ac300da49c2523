-- `card::reading::table_of` meets its contract. The loop's invariant: the table holds the tasks of the blocks passed. Assumes nothing.
use Rattle.std.proofs.Common.{◌≡◌}
use Rattle.card.proofs.ArchiveLaws.{table_to}
use Rattle.card.proofs.WalkLaws.{Passed}
use Rattle.card.proofs.reading.table_of.Given as goal

abbrev pub invariant-loop-i : goal.invariant-loop-i
invariant-loop-i l =
    let k = l.i-iterator.count in
    Passed l.a k l.i-iterator.iter.rest.now l.i-iterator.iter.size × (l.t ≡ table_to l.a k)
