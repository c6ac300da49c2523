use mathlib.Core.Path.{◌≡◌, ap, ◌∙◌}
use native.Mathlib.Omega.{arith}
use lib.ListN.{length}
use Rattle.writing.specs.Write.{member_text, head_text}
use Rattle.writing.proofs.WriteLaws.{none_yet, more_length, member_at, cpus_text}
use Rattle.writing.proofs.text.head_len.Goals as goal

pub loop-k-init : goal.loop-k-init
loop-k-init c =
    let a = c.args in
    (c.line_len-sum.ensures.upper_bound, omega (arith, c.line_len-sum.ensures.value, ap length (none_yet (cpus_text a.cpus) (member_text a.groups.now))))

pub loop-k-preserved : goal.loop-k-preserved
loop-k-preserved c =
    let a = c.args in
    let line : c.optional_len-sum.result ≡ length (member_text a.groups.now c.loop-k.k) = c.optional_len-sum.ensures.value ∙ ap length (c.group_fields.ensures ∙ member_at a.groups.now c.loop-k.k) in
    (omega (arith, c.optional_len-sum.ensures.upper_bound), omega (arith, more_length (cpus_text a.cpus) (member_text a.groups.now) c.loop-k.k))

pub returns : goal.returns
unfolding head_text
returns c =
    let l = c.loop-k in
    let e : l.k ≡ 16 = omega arith in
    record { value = l.invariant.1 ∙ rw e; upper_bound = omega arith }
