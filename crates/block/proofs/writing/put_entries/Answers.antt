use Prim.Native.Nat.{◌+◌, ◌*◌}
use mathlib.Core.Path.{◌≡◌}
use native.Mathlib.Omega.{arith}
use Rattle.basics.proofs.JoinLaws.{join_none, join_more}
use Rattle.basics.proofs.FillLaws.{filled_none, rest_length}
use Rattle.block.specs.Block.{entries_bytes}
use Rattle.block.proofs.BlockLaws.{entry_length, put_next}
use Rattle.block.proofs.writing.put_entries.Goals as goal

pub loop-k-init : goal.loop-k-init
loop-k-init c = rw join_none (filled_none _)

pub slice_bounds-put_entry-count : goal.slice_bounds-put_entry-count
slice_bounds-put_entry-count c = omega (arith, c.loop-k.invariant.kept)

pub slice_bounds-put_entry-start : goal.slice_bounds-put_entry-start
slice_bounds-put_entry-start c = omega (arith, c.loop-k.invariant.kept)

pub put_entry-requires : goal.put_entry-requires
put_entry-requires c =
    let l = c.loop-k in
    omega (arith, l.invariant.kept, rest_length l.out (10 * l.k))

pub loop-k-preserved : goal.loop-k-preserved
loop-k-preserved c =
    let n : 10 * (c.loop-k.k + 1) ≡ 10 * c.loop-k.k + 10 = omega arith in
    rw (join_more, n) (put_next c.loop-k.invariant _ (entry_length _) (omega arith) c.put_entry.auto.out c.put_entry.ensures)

pub returns : goal.returns
unfolding entries_bytes
returns c =
    let e : c.loop-k.k ≡ 16 = omega arith in
    (rw e at c.loop-k.invariant).holds
