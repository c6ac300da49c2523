-- `field::fraction` meets its contract: each `return` is a law of `fraction`. Assumes nothing.
use mathlib.Core.Path.{sym, ◌∙◌}
use Rattle.field.proofs.FoundLaws.{fraction_long, fraction_none, fraction_open, fraction_ok}
use Rattle.field.proofs.fraction.Goals as goal
use Rattle.field.proofs.fraction.Goals.{then-digits-eq0-via-then-digits-eq0, then-digits-eq0-via-else-digits-eq0+then-not-ends_at}

pub returns-in_err-digits-clause-value : goal.returns-in_err-digits-clause-value
returns-in_err-digits-clause-value c = c.from_residual.ensures ∙ fraction_long _ _ _ _ c.in_err-digits.ensures.run

pub returns-then-digits-eq0-clause-value : goal.returns-then-digits-eq0-clause-value
returns-then-digits-eq0-clause-value c =
    let run = c.in_ok-digits.ensures.run in
    elim c.then-digits-eq0.branch [
      | then-digits-eq0-via-then-digits-eq0 w ↦ fraction_none _ _ _ _ _ _ run w.if-digits-eq0.true
      | then-digits-eq0-via-else-digits-eq0+then-not-ends_at w ↦ fraction_open _ _ _ _ _ _ run (sym w.if-not-ends_at.ensures)
    ]

pub returns-clause-value : goal.returns-clause-value
returns-clause-value c =
    fraction_ok _ _ _ _ _ _ c.in_ok-digits.ensures.run _ _ c.millionths.ensures.0 c.micros.ensures.0 c.if-digits-eq0.false (sym c.if-not-ends_at.ensures)
