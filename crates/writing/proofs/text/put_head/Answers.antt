use Prim.Native.Nat.{ℕ, ◌+◌, ◌≤◌}
use mathlib.Core.Path.{◌≡◌, ap, ◌∙◌}
use mathlib.Core.List.{◌++◌}
use native.Mathlib.Omega.{arith}
use lib.Dec.{lit<}
use lib.ListN.{length, length-append}
use Rattle.basics.specs.Over.{join_to}
use Rattle.basics.proofs.FillLaws.{rest_length}
use Rattle.put.proofs.OutputLaws.{filled_text, filled_done}
use Rattle.writing.specs.Write.{member_text, head_text}
use Rattle.writing.proofs.WriteLaws.{put_of, member_at, filled_first, next_room, filled_next, cpus_text}
use Rattle.writing.proofs.text.put_head.Goals as goal
use Rattle.writing.proofs.text.put_head.Goals.{In-loop-k}

-- there is room for the next resource's line
room : (c : goal.In-loop-k) → c.loop-k.at + length (member_text c.args.groups.now c.loop-k.k) ≤ length c.loop-k.out
unfolding head_text
room c = next_room (cpus_text c.args.cpus) (member_text c.args.groups.now) c.loop-k.k c.loop-k.invariant 16 c.loop-k-test.true c.requires

pub put_line-at-requires : goal.put_line-at-requires
unfolding head_text
put_line-at-requires c = omega (arith, c.requires, length-append (cpus_text c.args.cpus) (join_to 16 (member_text c.args.groups.now)))

pub loop-k-init : goal.loop-k-init
loop-k-init c =
    let a = c.args in
    filled_first (cpus_text a.cpus) (member_text a.groups.now) (filled_text (cpus_text a.cpus) c.put_line-at.auto.out c.put_line-at.ensures)

pub put_optional-at-requires : goal.put_optional-at-requires
put_optional-at-requires c =
    let l = c.loop-k in
    (lit< tt, omega (arith, room (goal.at.put_optional-at-requires c).In-loop-k, rest_length l.out l.at, ap length (c.group_fields.ensures ∙ member_at c.args.groups.now l.k)))

pub loop-k-preserved : goal.loop-k-preserved
loop-k-preserved c =
    let a = c.args in
    let p = c.put_optional-at in
    filled_next (cpus_text a.cpus) (member_text a.groups.now) c.loop-k.k c.loop-k.invariant p.auto.out (put_of _ (c.group_fields.ensures ∙ member_at a.groups.now c.loop-k.k) p.ensures)

pub returns : goal.returns
unfolding head_text
returns c =
    let a = c.args in
    let e : c.loop-k.k ≡ 16 = omega arith in
    filled_done (head_text a.cpus a.groups.now) (ap (λ (k : ℕ). cpus_text a.cpus ++ join_to k (member_text a.groups.now)) e) c.loop-k.invariant
