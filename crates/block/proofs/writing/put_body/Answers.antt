-- `block::writing::put_body` meets its contract: the head, the times, the entries and the zeros, one after the other. Assumes nothing.
use Prim.Native.Nat.{ℕ}
use mathlib.Core.List.{append_assoc}
use native.Mathlib.Omega.{arith}
use lib.ListN.{replicate, length-replicate}
use Rattle.block.specs.Block.{head_bytes, times_bytes, entries_bytes, body_of}
use Rattle.block.proofs.BlockLaws.{head_length, times_length, entries_length, put_first, put_next, put_is}
use Rattle.block.proofs.writing.put_body.Goals as goal

pub returns : goal.returns
unfolding body_of
returns c =
    let a = c.args in
    let f₁ = put_first a.out.now (head_bytes a.h) (head_length _) c.put_head.auto.out c.put_head.ensures in
    let f₂ = put_next f₁ (times_bytes a.x.now) (times_length _) (omega arith) c.put_times.auto.out c.put_times.ensures in
    let f₃ = put_next f₂ (entries_bytes a.x.now) (entries_length _) (omega arith) c.put_entries.auto.out c.put_entries.ensures in
    let f₄ = put_next f₃ (replicate 330 0) (length-replicate {A = ℕ} 330 0) (omega arith) c.put_zeros.auto.out c.put_zeros.ensures in
    put_is (body_of a.h a.x.now) f₄ (simp append_assoc)
