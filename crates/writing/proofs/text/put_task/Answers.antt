use Prim.Native.Nat.{◌+◌, ◌≤◌}
use mathlib.Core.Path.{◌≡◌, ap, ◌∙◌}
use native.Mathlib.Omega.{arith}
use lib.Dec.{lit<}
use lib.ListN.{length, length-append}
use Rattle.basics.specs.Over.{join_to}
use Rattle.basics.proofs.FillLaws.{Filled, rest_length, filled_part}
use Rattle.put.proofs.OutputLaws.{filled_text, filled_done}
use Rattle.put.proofs.PlaceLaws.{filled_within}
use Rattle.writing.specs.Write.{times_text, alpha_text, own_text, pair_text, task_text}
use Rattle.writing.proofs.WriteLaws.{put_of, pair_at, filled_first, next_room, filled_next}
use Rattle.writing.proofs.text.put_task.Goals as goal
use Rattle.writing.proofs.text.put_task.Goals.{Start, After-put_line-at, In-loop-k}

-- there is room for the task's own lines
own : (s : goal.Start) → let x = s.args.x.now in length (times_text x) + length (alpha_text x.alpha) ≤ length s.args.out.now
unfolding task_text
own s =
    let x = s.args.x.now in
    omega (arith, s.requires, length-append (own_text x) (join_to 16 (pair_text x)), length-append (times_text x) (alpha_text x.alpha))

lined : (c : goal.After-put_line-at) → Filled c.args.out.now c.put_line-at.new.out (times_text c.args.x.now) c.put_line-at.result
lined c = filled_text (times_text c.args.x.now) c.put_line-at.auto.out (put_of _ c.times.ensures c.put_line-at.ensures)

-- there is room for the next pair's line
room : (c : goal.In-loop-k) → c.loop-k.at + length (pair_text c.args.x.now c.loop-k.k) ≤ length c.loop-k.out
unfolding task_text
room c = next_room (own_text c.args.x.now) (pair_text c.args.x.now) c.loop-k.k c.loop-k.invariant 16 c.loop-k-test.true c.requires

pub put_line-at-requires : goal.put_line-at-requires
put_line-at-requires c = omega (arith, own (goal.at.put_line-at-requires c).Start, ap length c.times.ensures)

pub put_optional-at-requires : goal.put_optional-at-requires
put_optional-at-requires c =
    let s = (goal.at.put_optional-at-requires c).Start in
    let l = lined (goal.at.put_optional-at-requires c).After-put_line-at in
    (lit< tt, omega (arith, own s, l.long, l.kept, rest_length c.put_line-at.new.out c.put_line-at.result, ap length c.alpha_fields.ensures))

pub put_optional-at-requires-in-loop-k : goal.put_optional-at-requires-in-loop-k
put_optional-at-requires-in-loop-k c =
    let l = c.loop-k in
    (lit< tt, omega (arith, room (goal.at.put_optional-at-requires-in-loop-k c).In-loop-k, rest_length l.out l.at, ap length (c.use_fields.ensures ∙ pair_at c.args.x.now l.k)))

pub loop-k-init : goal.loop-k-init
loop-k-init c =
    let x = c.args.x.now in
    let l = lined (goal.at.loop-k-init c).After-put_line-at in
    let p = put_of _ c.alpha_fields.ensures c.put_optional-at.ensures in
    filled_first (own_text x) (pair_text x) (filled_part l (alpha_text x.alpha) (filled_within l) p.0 c.put_optional-at.auto.out p.1)

pub loop-k-preserved : goal.loop-k-preserved
loop-k-preserved c =
    let x = c.args.x.now in
    let p = c.put_optional-at-in-loop-k in
    filled_next (own_text x) (pair_text x) c.loop-k.k c.loop-k.invariant p.auto.out (put_of _ (c.use_fields.ensures ∙ pair_at x c.loop-k.k) p.ensures)

pub returns : goal.returns
unfolding task_text
returns c =
    let e : c.loop-k.k ≡ 16 = omega arith in
    filled_done (task_text c.args.x.now) (rw e) c.loop-k.invariant
