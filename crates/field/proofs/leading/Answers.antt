use mathlib.Core.Path.{◌≡◌, sym, ap, ◌∙◌}
use native.Mathlib.Omega.{arith}
use lib.ListN.{length, get_or}
use Rattle.basics.proofs.ChoiceLaws.{within_true}
use Rattle.field.specs.Number.{number}
use Rattle.field.proofs.DigitLaws.{digits_none, digits_other, digits_more, run_of_lem, run_long, ten, room}
use Rattle.field.proofs.leading.Goals as goal

pub returns-then-not-is_ascii_digit-clause-run : goal.returns-then-not-is_ascii_digit-clause-run
returns-then-not-is_ascii_digit-clause-run c =
    let i = c.loop-width.invariant in
    run_of_lem _ _ _ _ i.0 i.1 i.2 (digits_other _ _ c.loop-width-test.true (sym c.is_ascii_digit.ensures.value ∙ c.if-not-is_ascii_digit.true))

pub returns-then-width-most-clause-run : goal.returns-then-width-most-clause-run
returns-then-width-most-clause-run c =
    run_long _ _ _ c.if-width-most.true c.loop-width.invariant.1 c.loop-width-test.true (sym c.is_ascii_digit.ensures.value ∙ c.if-not-is_ascii_digit.false)

pub overflow_mul-value : goal.overflow_mul-value
overflow_mul-value c = omega (arith, room c.loop-width.width (omega arith))

pub overflow_add-value : goal.overflow_add-value
overflow_add-value c = omega (arith, room c.loop-width.width (omega arith))

pub loop-width-preserved : goal.loop-width-preserved
loop-width-preserved c =
    let i = c.loop-width.invariant in
    let n = c.loop-width.width in
    let b = get_or c.args.s.now n 0 in
    let d = sym c.is_ascii_digit.ensures.value ∙ c.if-not-is_ascii_digit.false in
    let m = digits_more c.args.s.now n c.loop-width-test.true d in
    (omega arith, omega (arith, ap length m), rw c.from.ensures (sym (ap (number c.loop-width.value) m) ∙ i.2), omega (arith, ten n, within_true 48 57 b d))

pub returns-clause-run : goal.returns-clause-run
returns-clause-run c =
    let i = c.loop-width.invariant in
    let e : c.loop-width.width ≡ length c.args.s.now = omega arith in
    rw (← e) (run_of_lem _ _ _ _ i.0 i.1 i.2 (digits_none _ _ c.loop-width-test.false))
