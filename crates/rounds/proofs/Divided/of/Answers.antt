use Rattle.std.proofs.Common.{◌≡◌, ◌+◌, ◌<◌, ◌∙◌, ap, ℕ, add_assoc, arith, rules}
use Rattle.theory.specs.Work.{workload}
use Rattle.rounds.specs.Shares.{share_at, part_of}
use Rattle.rounds.proofs.PackLaws.{share_here, parts_none, parts_more}
use Rattle.rounds.proofs.Divided.of.Goals as goal

pub loop-share-init : goal.loop-share-init
loop-share-init c = (omega arith, parts_none c.args.s.now part_of c.none-row.ensures)

pub push-requires : goal.push-requires
push-requires c =
    let s = c.args.s.now in
    let k = c.loop-share.share-index in
    let here : k < s.n = omega arith in
    (search rules, (omega arith, rw (share_here s k here) (c.requires.each k here).one))

pub loop-share-preserved : goal.loop-share-preserved
loop-share-preserved c =
    let s = c.args.s.now in
    let k = c.loop-share.share-index in
    let here : k < s.n = omega arith in
    let e = share_at s k in
    let one = rw (share_here s k here) at c.push.ensures in
    let two = rw (share_here s k here) at c.push-in-loop-share.ensures in (
      omega (arith, one.one, two.one),
      parts_more s part_of c.loop-share.invariant.1 (λ t h. two.are t h ∙ ap (λ (x : ℕ). x + workload e.period e.deadline t e.two) (one.are t h) ∙ add_assoc _ _ _),
    )

pub returns : goal.returns
returns c =
    let n : c.loop-share.share-index ≡ c.args.s.now.n = omega arith in
    rw n at c.loop-share.invariant.1
