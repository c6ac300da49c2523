use mathlib.Core.Path.{◌≡◌}
use native.Mathlib.Omega.{arith}
use Rattle.basics.proofs.JoinLaws.{join_none}
use Rattle.basics.proofs.FillLaws.{filled_none}
use Rattle.card.specs.Archive.{archive_of}
use Rattle.card.proofs.ArchiveLaws.{block_next}
use Rattle.card.proofs.writing.put_blocks.Goals as goal

pub loop-i-init : goal.loop-i-init
loop-i-init c = rw join_none (filled_none _)

pub slice_bounds-put_block-count : goal.slice_bounds-put_block-count
slice_bounds-put_block-count c = omega (arith, c.loop-i.invariant.kept)

pub slice_bounds-put_block-start : goal.slice_bounds-put_block-start
slice_bounds-put_block-start c = omega (arith, c.loop-i.invariant.kept)

pub loop-i-preserved : goal.loop-i-preserved
loop-i-preserved c =
    block_next c.args.t.now c.loop-i.i c.loop-i.invariant (omega arith) c.put_block.auto.out c.put_block.ensures.1

pub returns : goal.returns
unfolding archive_of
returns c =
    let e : c.loop-i.i ≡ c.args.t.now.n = omega arith in
    (rw e at c.loop-i.invariant).holds
