-- `block::writing::put_all` meets its contract: the check is of the 510 bytes that the body has put. Assumes nothing.
use Prim.Native.Nat.{ℕ}
use mathlib.Core.Path.{sym, ap, ◌∙◌}
use mathlib.Core.List.{List}
use native.Mathlib.Omega.{arith}
use lib.ListN.{take}
use lib.Seq.{take_at, length-take-le}
use Rattle.checksum.specs.Sum.{check_of}
use Rattle.block.specs.Numbers.{in_bytes}
use Rattle.block.specs.Block.{body_of, block_of}
use Rattle.block.proofs.NumberLaws.{bytes_length}
use Rattle.block.proofs.BlockLaws.{body_length, put_first, put_next, put_is}
use Rattle.block.proofs.writing.put_all.Goals as goal

pub slice_bounds-check_of-end-2 : goal.slice_bounds-check_of-end-2
slice_bounds-check_of-end-2 c =
    sym (length-take-le _ c.put_body.new.out (omega (arith, c.put_body.auto.out)))

pub returns : goal.returns
unfolding block_of
returns c =
    let a = c.args in
    let body = body_of a.h a.x.now in
    let f₁ = put_first a.out.now body (body_length _ _) c.put_body.auto.out c.put_body.ensures in
    let e = c.check_of-check.ensures ∙ ap (λ (s : List ℕ). check_of (take 510 s)) f₁.holds ∙ ap check_of (take_at body _ 510 (body_length _ _)) in
    put_is (block_of a.h a.x.now) (put_next f₁ (in_bytes 2 c.check_of-check.result) (bytes_length 2 _) (omega arith) c.put_two.auto.out c.put_two.ensures) (rw e)
