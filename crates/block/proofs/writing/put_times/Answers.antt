-- `block::writing::put_times` meets its contract: three numbers, one after the other. Assumes nothing.
use mathlib.Core.List.{append_assoc}
use native.Mathlib.Omega.{arith}
use Rattle.block.specs.Numbers.{in_bytes}
use Rattle.block.specs.Block.{times_bytes}
use Rattle.block.proofs.NumberLaws.{bytes_length}
use Rattle.block.proofs.BlockLaws.{put_first, put_next, put_is}
use Rattle.block.proofs.writing.put_times.Goals as goal

pub returns : goal.returns
unfolding times_bytes
returns c =
    let a = c.args in
    let x = a.x.now in
    let f₁ = put_first a.out.now (in_bytes 4 x.period) (bytes_length 4 _) c.put_four.auto.out c.put_four.ensures in
    let f₂ = put_next f₁ (in_bytes 4 x.run) (bytes_length 4 _) (omega arith) c.put_four-2.auto.out c.put_four-2.ensures in
    let f₃ = put_next f₂ (in_bytes 4 x.deadline) (bytes_length 4 _) (omega arith) c.put_four-3.auto.out c.put_four-3.ensures in
    put_is (times_bytes x) f₃ (simp append_assoc)
