-- `salvaging::left::Card::table` meets its contract. The loop's invariant: the table holds the tasks of the numbers passed. Assumes nothing.
use Rattle.std.proofs.Common.{◌≡◌}
use Rattle.table.specs.Empty.{no_groups}
use Rattle.block.specs.Block.{head_in}
use Rattle.card.specs.Archive.{block_at}
use Rattle.salvaging.specs.Salvage.{in_order}
use Rattle.salvaging.proofs.MendLaws.{tasks_to}
use Rattle.salvaging.proofs.left.Card.table.Given as goal

abbrev pub invariant-loop-p : goal.invariant-loop-p
invariant-loop-p l =
    let s = l.self.input.now in
    let list = l.self.codes.now in
    (l.t.cpus ≡ (head_in (block_at (in_order s list l.n) 0)).cpus) × (l.t.n ≡ l.n) × (l.t.groups ≡ no_groups) × (l.t.tasks ≡ tasks_to s list l.p)
