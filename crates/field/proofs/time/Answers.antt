-- `field::time` meets its contract: each answer is a law of `time_field`. Assumes nothing.
use mathlib.Core.Path.{sym, ap, ◌∙◌}
use Rattle.field.proofs.FoundLaws.{time_long, time_none, time_whole, time_other, time_fraction}
use Rattle.basics.proofs.FillLaws.{whole_part}
use Rattle.field.specs.Number.{fraction}
use Rattle.field.proofs.time.Goals as goal

pub returns-in_err-value-clause-value : goal.returns-in_err-value-clause-value
returns-in_err-value-clause-value c = c.from_residual.ensures ∙ time_long _ _ c.in_err-value.ensures.run

pub returns-then-width-eq0-clause-value : goal.returns-then-width-eq0-clause-value
returns-then-width-eq0-clause-value c = time_none _ _ _ _ c.in_ok-value.ensures.run c.if-width-eq0.true

pub returns-then-ends_at-clause-value : goal.returns-then-ends_at-clause-value
returns-then-ends_at-clause-value c = time_whole _ _ _ _ c.in_ok-value.ensures.run c.if-width-eq0.false (sym c.if-ends_at.ensures)

pub returns-then-not-point_at-clause-value : goal.returns-then-not-point_at-clause-value
returns-then-not-point_at-clause-value c = time_other _ _ _ _ c.in_ok-value.ensures.run (sym c.if-ends_at.ensures) (sym c.if-not-point_at.ensures.point)

pub returns-clause-value : goal.returns-clause-value
returns-clause-value c =
    c.fraction.ensures.value
    ∙ ap (fraction c.args.way c.in_ok-value.field-0.value _) (whole_part c.args.s.now _)
    ∙ time_fraction _ _ _ _ c.in_ok-value.ensures.run c.if-width-eq0.false (sym c.if-ends_at.ensures) (sym c.if-not-point_at.ensures.point)
