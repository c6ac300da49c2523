use Rattle.std.proofs.Common.{◌+◌, arith}
use Rattle.rounds.specs.Shares.{shares_demand}
use Rattle.rounds.proofs.QuotLaws.{ceil_is}
use Rattle.rounds.proofs.RoundLaws.{sought_start, Round, round_meets, round_misses, round_open, round_more}
use Rattle.rounds.proofs.StrideLaws.{stride_more}
use Rattle.rounds.proofs.iterate.Goals as goal
use Rattle.rounds.proofs.iterate.Goals.{After-div_ceil}

pub loop-wholes-init : goal.loop-wholes-init
loop-wholes-init c = sought_start c.requires.0 c.requires.1

-- what the round works out is the demand
round : (c : After-div_ceil)
    → let a = c.args in
    let s = a.s.now in
    Round s a.deadline a.allowance c.loop-wholes.t c.loop-wholes.used (s.base + c.load-whole.result + c.div_ceil.result)
unfolding shares_demand
round c =
    let t = c.loop-wholes.t in
    let low = c.loop-wholes.invariant.low in
    let pos = c.requires.0.head.cpus_least in
    record {
      sound = c.requires.0;
      sought = c.loop-wholes.invariant;
      is = rw (c.div_ceil.ensures, ceil_is _ _ pos, c.load-whole.ensures.is, c.load-part.ensures.is, c.of-wholes.ensures.are t low, c.of-divided.ensures.are t low);
    }

pub returns-then-f-from : goal.returns-then-f-from
returns-then-f-from c = round_meets (round (goal.at.returns-then-f-from c).After-div_ceil) (omega arith)

pub returns-then-from-f : goal.returns-then-from-f
returns-then-from-f c = round_misses (round (goal.at.returns-then-from-f c).After-div_ceil) (omega arith) (omega arith)

pub returns-then-spent-allowance : goal.returns-then-spent-allowance
returns-then-spent-allowance c = round_open (round (goal.at.returns-then-spent-allowance c).After-div_ceil) (omega arith) (omega arith) (omega arith)

pub loop-wholes-preserved-then-until_look-gt0 : goal.loop-wholes-preserved-then-until_look-gt0
loop-wholes-preserved-then-until_look-gt0 c = round_more (round (goal.at.loop-wholes-preserved-then-until_look-gt0 c).After-div_ceil) (omega arith) (omega arith) (omega arith)

pub loop-wholes-preserved : goal.loop-wholes-preserved
loop-wholes-preserved c =
    let o = round (goal.at.loop-wholes-preserved c).After-div_ceil in
    stride_more o c.of-wholes.ensures c.of-divided.ensures c.even_reach-reach.ensures c.stride-k.ensures
    (omega arith) (omega arith) (omega (arith, o.sought.high)) (omega (arith, o.sought.left))
