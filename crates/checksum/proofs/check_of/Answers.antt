use Prim.Native.Nat.{◌+◌, ◌/◌, ◌%◌}
use mathlib.Core.Path.{◌≡◌, ◌∙◌}
use native.Mathlib.Omega.{arith}
use lib.ListN.{length}
use Rattle.checksum.proofs.SumLaws.{sum_none, sum_pair, sum_last, check_is}
use Rattle.checksum.proofs.check_of.Goals as goal
use Rattle.checksum.proofs.check_of.Goals.{in_default, in-len1-up}

pub loop-pair-init : goal.loop-pair-init
loop-pair-init c = sum_none _

pub loop-pair-preserved : goal.loop-pair-preserved
loop-pair-preserved c =
    let l = c.loop-pair in
    c.plus-sum.ensures ∙ sum_pair l.pair-index c.args.s.now c.as_chunks.ensures.front (omega (arith, c.as_chunks.ensures.front_len)) l.invariant c.from_be_bytes.ensures

pub returns : goal.returns
returns c =
    let s = c.args.s.now in
    let l = c.loop-pair in
    let pairs : length c.as_chunks.result.0.now ≡ length s / 2 = c.as_chunks.ensures.front_len in
    let left : length c.as_chunks.result.1.now ≡ length s % 2 = c.as_chunks.ensures.back_len in
    c.from.ensures ∙ elim c.if-rest-lt1.branch [
      | in_default w ↦ check_is l.pair-index s (omega arith) (w.sum-is ∙ l.invariant)
      | in-len1-up w ↦ check_is (l.pair-index + 1) s (omega arith)
          (w.sum-is ∙ w.plus-sum-in-len1-up.ensures ∙ sum_last l.pair-index s (omega arith) c.as_chunks.ensures.back l.invariant w.from_be_bytes-in-len1-up.ensures)
    ]
