use native.Mathlib.Omega.{arith}
use Rattle.waits.proofs.SummingLaws.{going_first, going_more}
use Rattle.waits.proofs.longest.Kept.sum_others.Goals as goal

pub loop-i-init : goal.loop-i-init
loop-i-init c =
    record { few = omega arith; small = omega arith; going = going_first c.args.self.now.of _ _ _ _ c.min-end.ensures }

pub loop-i-preserved-then-z-k : goal.loop-i-preserved-then-z-k
loop-i-preserved-then-z-k c =
    let g = c.loop-i.invariant.going in
    record { few = omega (arith, g.ends); small = omega arith; going = going_more c.args.self.now.row g (omega arith) c.if-z-k.true c.from-sum.result c.from-sum.ensures }
