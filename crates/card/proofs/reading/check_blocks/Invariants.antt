-- `card::reading::check_blocks` meets its contract. The loop's invariant: none of the blocks passed has a fault. Assumes nothing.
use Rattle.std.proofs.Common.{◌≡◌, Ok}
use Rattle.table.specs.Faults.{first_fault}
use Rattle.card.specs.Archive.{block_fault_at}
use Rattle.card.proofs.WalkLaws.{Passed}
use Rattle.card.proofs.reading.check_blocks.Given as goal

abbrev pub invariant-loop-i : goal.invariant-loop-i
invariant-loop-i l =
    let k = l.i-iterator.count in
    Passed l.a k l.i-iterator.iter.rest.now l.i-iterator.iter.size × (first_fault k (block_fault_at l.a) ≡ Ok tt)
