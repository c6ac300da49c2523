use native.Mathlib.Omega.{arith}
use Rattle.waits.proofs.KeptLaws.{kept_none, kept_both}
use Rattle.waits.proofs.KeyLaws.{rest_none, rest_all, rest_used, rest_unused}
use Rattle.waits.proofs.longest.Kept.keep_task.Goals as goal

pub loop-k-init : goal.loop-k-init
loop-k-init c = rw (rest_none c.args.x.now) (kept_none c.args.self.now.row)

pub loop-k-preserved-then-p-gt0 : goal.loop-k-preserved-then-p-gt0
loop-k-preserved-then-p-gt0 c =
    let e = rest_used c.args.x.now c.loop-k.k (omega arith) (omega arith) (omega arith) in
    rw (e, ← c.key_of.ensures) (kept_both c.loop-k.invariant c.keep.ensures)

pub loop-k-preserved : goal.loop-k-preserved
loop-k-preserved c =
    rw (rest_unused c.args.x.now c.loop-k.k (omega arith) (omega arith) (omega arith)) c.loop-k.invariant

pub returns : goal.returns
returns c = rw (← (rest_all c.args.x.now c.loop-k.k (omega arith))) c.loop-k.invariant
