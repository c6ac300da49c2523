-- `block::put_block` meets its contract: the room decides. Assumes nothing.
use mathlib.Core.Path.{sym, ◌∙◌}
use native.Mathlib.Omega.{arith}
use borrow.Author.Tests.{le-leb, lt-leb}
use Rattle.basics.proofs.FillLaws.{put_none, put_all}
use Rattle.block.specs.Block.{block_of}
use Rattle.block.proofs.BlockLaws.{block_length}
use Rattle.block.proofs.put_block.Goals as goal

pub returns-then-out-lt-SIZE : goal.returns-then-out-lt-SIZE
returns-then-out-lt-SIZE c =
    let a = c.args in
    let n = block_length a.h a.x in
    (sym (lt-leb _ _ c.if-out-lt-SIZE.true), put_none (block_of a.h a.x) a.out.now (omega arith))

pub returns : goal.returns
returns c =
    let a = c.args in
    let n = block_length a.h a.x in
    (sym (le-leb _ _ c.if-out-lt-SIZE.false), put_all (block_of a.h a.x) a.out.now (omega arith) (c.put_all.ensures ∙ rw n))
