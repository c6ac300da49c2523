use mathlib.Core.Path.{◌≡◌, ap, ◌∙◌}
use native.Mathlib.Omega.{arith}
use borrow.Author.Rules.{rules}
use lib.ListN.{set, replicate, length-replicate}
use Rattle.basics.proofs.RowLaws.{over_none, over_more, over_same}
use Rattle.table.specs.declared.Table.{Table}
use Rattle.table.specs.Limits.{max_tasks}
use Rattle.table.specs.Empty.{empty_task, empty_table}
use Rattle.table.specs.Accepted.{Accepted}
use Rattle.table.proofs.Acceptance.{fine_accepted}
use Rattle.theory.specs.Merge.{grouped_tasks}
use Rattle.merging.proofs.merge_tasks.Goals as goal
use Rattle.merging.proofs.merge_tasks.Invariants.{passed, task_of}
use Rattle.merging.proofs.merge_tasks.Goals.{At-loop-i}

accepted : (l : goal.At-loop-i) → Accepted l.args.t
accepted l = fine_accepted _ l.requires

pub loop-i-init : goal.loop-i-init
unfolding empty_table
loop-i-init c =
    ap (λ (t : Table). t.tasks) c.empty.ensures ∙ over_none (task_of c.args.t) (replicate max_tasks empty_task)

pub merge_task-requires : goal.merge_task-requires
merge_task-requires c = (accepted (goal.at.merge_task-requires c).At-loop-i).task c.loop-i.i (search rules)

pub loop-i-preserved : goal.loop-i-preserved
loop-i-preserved c =
    let t = c.args.t in
    let i = c.loop-i.i in
    (λ j. set (c.loop-i.invariant j) i (c.merge_task.ensures j))
    ∙ over_more (task_of t) i (replicate max_tasks empty_task) (omega (arith, length-replicate max_tasks empty_task, (accepted (goal.at.loop-i-preserved c).At-loop-i).tasks_most))

pub returns : goal.returns
unfolding grouped_tasks
returns c =
    let t = c.args.t in
    let all : c.loop-i.i ≡ t.n = omega arith in
    c.loop-i.invariant ∙ ap (passed t) all ∙ over_same (task_of t) empty_task t.n max_tasks (accepted (goal.at.returns c).At-loop-i).tasks_most

pub offset_bounds-t-i : goal.offset_bounds-t-i
offset_bounds-t-i c = omega (arith, (accepted (goal.at.offset_bounds-t-i c).At-loop-i).tasks_most)

pub bounds-t-i : goal.bounds-t-i
bounds-t-i c = omega (arith, (accepted (goal.at.bounds-t-i c).At-loop-i).tasks_most)

pub offset_bounds-tasks-i : goal.offset_bounds-tasks-i
offset_bounds-tasks-i c = omega (arith, (accepted (goal.at.offset_bounds-tasks-i c).At-loop-i).tasks_most)

pub bounds-tasks-i : goal.bounds-tasks-i
bounds-tasks-i c = omega (arith, (accepted (goal.at.bounds-tasks-i c).At-loop-i).tasks_most)
