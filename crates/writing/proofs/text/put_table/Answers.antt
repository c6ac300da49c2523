use Prim.Native.Nat.{ℕ, ◌+◌, ◌≤◌}
use mathlib.Core.Path.{◌≡◌, ap}
use mathlib.Core.List.{◌++◌}
use native.Mathlib.Omega.{arith}
use lib.ListN.{length, length-append}
use Rattle.basics.specs.Over.{join_to}
use Rattle.basics.proofs.FillLaws.{rest_length}
use Rattle.put.proofs.OutputLaws.{filled_text, filled_done}
use Rattle.table.proofs.Acceptance.{fine_accepted}
use Rattle.writing.specs.Write.{text_of}
use Rattle.writing.proofs.WriteLaws.{filled_first, next_room, filled_next, head_of, lines_of}
use Rattle.writing.proofs.text.put_table.Goals as goal
use Rattle.writing.proofs.text.put_table.Goals.{Start, In-loop-i}

few : (s : goal.Start) → s.args.t.n ≤ 32
few s = (fine_accepted s.args.t s.requires.0).tasks_most

-- there is room for the next task's lines
room : (c : goal.In-loop-i) → c.loop-i.at + length (lines_of c.args.t c.loop-i.i) ≤ length c.loop-i.out
unfolding text_of
room c = next_room (head_of c.args.t) (lines_of c.args.t) c.loop-i.i c.loop-i.invariant c.args.t.n c.loop-i-test.true c.requires.1

pub put_head-at-requires : goal.put_head-at-requires
unfolding text_of
put_head-at-requires c =
    let t = c.args.t in
    omega (arith, c.requires.1, length-append (head_of t) (join_to t.n (lines_of t)))

pub loop-i-init : goal.loop-i-init
loop-i-init c =
    let t = c.args.t in
    filled_first (head_of t) (lines_of t) (filled_text (head_of t) c.put_head-at.auto.out c.put_head-at.ensures)

pub offset_bounds-t-i : goal.offset_bounds-t-i
offset_bounds-t-i c = omega (arith, few (goal.at.offset_bounds-t-i c).Start)

pub bounds-t-i : goal.bounds-t-i
bounds-t-i c = omega (arith, few (goal.at.bounds-t-i c).Start)

pub put_task-at-requires : goal.put_task-at-requires
put_task-at-requires c =
    let l = c.loop-i in
    omega (arith, room (goal.at.put_task-at-requires c).In-loop-i, rest_length l.out l.at)

pub loop-i-preserved : goal.loop-i-preserved
loop-i-preserved c =
    let t = c.args.t in
    filled_next (head_of t) (lines_of t) c.loop-i.i c.loop-i.invariant c.put_task-at.auto.out c.put_task-at.ensures

pub returns : goal.returns
unfolding text_of
returns c =
    let t = c.args.t in
    let e : c.loop-i.i ≡ t.n = omega arith in
    filled_done (text_of t) (ap (λ (k : ℕ). head_of t ++ join_to k (lines_of t)) e) c.loop-i.invariant
