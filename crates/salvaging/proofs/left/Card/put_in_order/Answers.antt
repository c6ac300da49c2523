use Rattle.std.proofs.Common.{◌≡◌, ◌+◌, ◌-◌, ◌*◌, drop, length-drop, sym, ap, ◌∙◌, length, arith}
use lib.Seq.{length-take-le}
use Rattle.basics.proofs.FillLaws.{filled_none}
use Rattle.salvaging.proofs.MendLaws.{block_long, block_next, order_none}
use Rattle.salvaging.proofs.left.Card.put_in_order.Goals as goal
use Rattle.salvaging.proofs.left.Card.put_in_order.Goals.{After-numbered}

-- a block is as long as its place
long : (c : goal.After-numbered) → length c.numbered.result.now ≡ 512
long c =
    let s = c.args.self.now in
    let h = c.requires.2 c.loop-p.p (omega arith) in
    rw c.numbered.ensures (block_long s.input.now _ (omega (arith, h, s.whole.1)))

pub loop-p-init : goal.loop-p-init
loop-p-init c = rw order_none (filled_none _)

pub copy_from_slice-requires : goal.copy_from_slice-requires
copy_from_slice-requires c =
    let e : 512 * c.loop-p.p + 512 - 512 * c.loop-p.p ≡ 512 = omega arith in
    let o = c.loop-p.out in
    rw e (length-take-le 512 (drop (512 * c.loop-p.p) o) (omega (arith, length-drop (512 * c.loop-p.p) o, c.loop-p.invariant.kept)))
    ∙ sym (long (goal.at.copy_from_slice-requires c).After-numbered)

pub loop-p-preserved : goal.loop-p-preserved
loop-p-preserved c =
    let x = c.copy_from_slice.ensures.after in
    let n = long (goal.at.loop-p-preserved c).After-numbered in
    block_next _ _ c.loop-p.p c.loop-p.invariant (omega arith) (ap length x ∙ n) (x ∙ c.numbered.ensures)

pub returns : goal.returns
returns c =
    let e : c.loop-p.p ≡ c.args.n = omega arith in
    (rw e at c.loop-p.invariant).holds
