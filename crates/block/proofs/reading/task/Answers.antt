-- `block::reading::task` meets its contract: the call at k makes the pair of resource k + 1. Assumes nothing.
use Rattle.std.proofs.Common.{rules}
use Rattle.basics.proofs.MadeLaws.{row_made}
use Rattle.table.specs.Empty.{unused_pair}
use Rattle.block.specs.Block.{pair_in, task_in}
use Rattle.block.proofs.reading.task.Goals as goal

pub returns : goal.returns
unfolding task_in
returns c =
    let p = c.from_fn-pairs in
    rw (c.four.ensures, c.four-2.ensures, c.four-3.ensures, row_made _ _ (pair_in c.args.s.now) 16 p.result unused_pair p.ensures.items (λ i y q z. search rules))
