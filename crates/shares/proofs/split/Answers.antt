use Rattle.std.proofs.Common.{◌≡◌, arith}
use Rattle.basics.specs.Choice.{only}
use Rattle.basics.proofs.SumLaws.{sum_none, sum_more}
use Rattle.table.specs.At.{total_of}
use Rattle.shares.specs.Pass.{mark_at, marked_of}
use Rattle.shares.proofs.split.Goals as goal
use Rattle.shares.proofs.split.Goals.{then-m-k, else-m-k}

pub loop-k-init : goal.loop-k-init
loop-k-init c = omega (arith, sum_none (marked_of c.args.m.now c.args.b.now), sum_none (total_of c.args.b.now))

pub loop-k-preserved : goal.loop-k-preserved
loop-k-preserved c =
    let k = c.loop-k.k in
    let m = c.args.m.now in
    let b = c.args.b.now in
    elim c.if-m-k.branch [
      | then-m-k w ↦ let on : only (mark_at m k) (total_of b k) ≡ total_of b k = rw w.if-m-k.true in omega (arith, sum_more k (marked_of m b), sum_more k (total_of b))
      | else-m-k w ↦ let off : only (mark_at m k) (total_of b k) ≡ 0 = rw w.if-m-k.false in omega (arith, sum_more k (marked_of m b), sum_more k (total_of b))
    ]
