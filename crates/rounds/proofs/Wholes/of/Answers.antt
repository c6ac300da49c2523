use Rattle.std.proofs.Common.{◌≡◌, ◌<◌, arith, rules}
use Rattle.rounds.specs.Shares.{whole_of}
use Rattle.rounds.proofs.PackLaws.{share_here, parts_none, parts_more}
use Rattle.rounds.proofs.Wholes.of.Goals as goal

pub loop-share-init : goal.loop-share-init
loop-share-init c = (omega arith, parts_none c.args.s.now whole_of c.none-row.ensures)

pub push-requires : goal.push-requires
push-requires c =
    let s = c.args.s.now in
    let k = c.loop-share.share-index in
    let here : k < s.n = omega arith in
    (search rules, (omega arith, rw (share_here s k here) (c.requires.each k here).whole))

pub loop-share-preserved : goal.loop-share-preserved
loop-share-preserved c =
    let s = c.args.s.now in
    let k = c.loop-share.share-index in
    let here : k < s.n = omega arith in
    let whole = rw (share_here s k here) at c.push.ensures in
    (omega (arith, whole.one), parts_more s whole_of c.loop-share.invariant.1 whole.are)

pub returns : goal.returns
returns c =
    let n : c.loop-share.share-index ≡ c.args.s.now.n = omega arith in
    rw n at c.loop-share.invariant.1
