use Prim.Native.Nat.{◌≤◌}
use mathlib.Core.Path.{◌≡◌, ap, ◌∙◌}
use native.Mathlib.Omega.{arith}
use lib.ListN.{length}
use Rattle.table.proofs.Acceptance.{fine_accepted}
use Rattle.writing.specs.Write.{text_of}
use Rattle.writing.proofs.WriteLaws.{none_yet, more_length, head_of, lines_of}
use Rattle.writing.proofs.text.table_len.Goals as goal
use Rattle.writing.proofs.text.table_len.Goals.{Start}

few : (s : goal.Start) → s.args.t.n ≤ 32
few s = (fine_accepted s.args.t s.requires).tasks_most

pub loop-i-init : goal.loop-i-init
loop-i-init c =
    let t = c.args.t in
    (c.head_len-sum.ensures.upper_bound, omega (arith, c.head_len-sum.ensures.value, ap length (none_yet (head_of t) (lines_of t))))

pub offset_bounds-t-i : goal.offset_bounds-t-i
offset_bounds-t-i c = omega (arith, few (goal.at.offset_bounds-t-i c).Start)

pub bounds-t-i : goal.bounds-t-i
bounds-t-i c = omega (arith, few (goal.at.bounds-t-i c).Start)

pub overflow_add-sum : goal.overflow_add-sum
overflow_add-sum c = omega (arith, few (goal.at.overflow_add-sum c).Start, c.task_len-sum.ensures.upper_bound)

pub loop-i-preserved : goal.loop-i-preserved
loop-i-preserved c =
    let t = c.args.t in
    (omega (arith, c.task_len-sum.ensures.upper_bound), omega (arith, more_length (head_of t) (lines_of t) c.loop-i.i, c.task_len-sum.ensures.value))

pub returns : goal.returns
unfolding text_of
returns c =
    let l = c.loop-i in
    let e : l.i ≡ c.args.t.n = omega arith in
    l.invariant.1 ∙ rw e
