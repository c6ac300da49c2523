use Rattle.std.proofs.Common.{sym, ◌∙◌, arith}
use Rattle.line.proofs.FormLaws.{tally_start, tally_next, tally_in}
use Rattle.line.proofs.field_count.Goals as goal
use Rattle.line.proofs.field_count.Goals.{then-not-ends_at, else-not-ends_at+else-gap}

pub loop-i-init : goal.loop-i-init
loop-i-init c = (omega arith, tally_start c.args.line.now)

pub loop-i-preserved : goal.loop-i-preserved
loop-i-preserved c =
    let l = c.loop-i in
    let s = c.args.line.now in
    elim c.if-not-ends_at.branch [
      | then-not-ends_at w ↦ rw (w.n-is, w.gap-is) (omega arith, sym (tally_in s l.i l.n l.gap c.loop-i-test.true (sym c.ends_at.ensures ∙ w.if-not-ends_at.true)) ∙ l.invariant.1)
      | else-not-ends_at+else-gap w ↦ rw (w.n-is, w.gap-is) (omega arith, sym (tally_next s l.i l.n l.gap c.loop-i-test.true w.if-gap.false (sym c.ends_at.ensures ∙ w.if-not-ends_at.false)) ∙ l.invariant.1)
    ]
