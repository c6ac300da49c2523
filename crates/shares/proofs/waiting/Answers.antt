use Rattle.std.proofs.Common.{◌*◌, ap₂, arith}
use Rattle.basics.proofs.SumLaws.{sum_none, sum_more}
use Rattle.shares.specs.Pass.{wait_at}
use Rattle.shares.proofs.waiting.Goals as goal

pub loop-k-init : goal.loop-k-init
loop-k-init c = omega (arith, sum_none (wait_at c.args.peaks.now c.args.a.now))

pub loop-k-preserved : goal.loop-k-preserved
loop-k-preserved c =
    omega (arith, ap₂ ◌*◌ c.from.ensures c.from-in-loop-k.ensures, sum_more c.loop-k.k (wait_at c.args.peaks.now c.args.a.now))
