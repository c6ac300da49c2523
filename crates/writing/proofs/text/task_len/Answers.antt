use mathlib.Core.Path.{◌≡◌, ap, ◌∙◌}
use native.Mathlib.Omega.{arith}
use lib.ListN.{length, length-append}
use Rattle.writing.specs.Write.{times_text, alpha_text, own_text, pair_text, task_text}
use Rattle.writing.proofs.WriteLaws.{none_yet, more_length, pair_at}
use Rattle.writing.proofs.text.task_len.Goals as goal

pub loop-k-init : goal.loop-k-init
loop-k-init c =
    let x = c.args.x.now in
    let line : c.line_len.result ≡ length (times_text x) = c.line_len.ensures.value ∙ ap length c.times.ensures in
    let alpha : c.optional_len.result ≡ length (alpha_text x.alpha) = c.optional_len.ensures.value ∙ ap length c.alpha_fields.ensures in (
      omega (arith, c.line_len.ensures.upper_bound, c.optional_len.ensures.upper_bound),
      omega (arith, length-append (times_text x) (alpha_text x.alpha), ap length (none_yet (own_text x) (pair_text x))),
    )

pub loop-k-preserved : goal.loop-k-preserved
loop-k-preserved c =
    let x = c.args.x.now in
    let line : c.optional_len-sum.result ≡ length (pair_text x c.loop-k.k) = c.optional_len-sum.ensures.value ∙ ap length (c.use_fields.ensures ∙ pair_at x c.loop-k.k) in
    (omega (arith, c.optional_len-sum.ensures.upper_bound), omega (arith, more_length (own_text x) (pair_text x) c.loop-k.k))

pub returns : goal.returns
unfolding task_text
returns c =
    let l = c.loop-k in
    let e : l.k ≡ 16 = omega arith in
    record { value = l.invariant.1 ∙ rw e; upper_bound = omega arith }
