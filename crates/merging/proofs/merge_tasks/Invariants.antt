-- `merging::merge_tasks` meets its contract. The loop's invariant: the tasks passed are merged, and the others empty. Assumes nothing.
use Prim.Native.Nat.{ℕ}
use mathlib.Core.Path.{◌≡◌}
use mathlib.Core.List.{List, ◌++◌}
use lib.ListN.{drop, replicate}
use Rattle.basics.specs.Over.{row_to}
use Rattle.table.specs.declared.Task.{Task}
use Rattle.table.specs.declared.Table.{Table}
use Rattle.table.specs.Limits.{max_tasks}
use Rattle.table.specs.Empty.{empty_task}
use Rattle.table.specs.At.{task_at}
use Rattle.theory.specs.Merge.{merged_task}
use Rattle.merging.proofs.merge_tasks.Given as goal

-- the tasks once the first i are merged
abbrev pub task_of : Table → ℕ → Task
task_of t i = merged_task t.groups (task_at t i)

abbrev pub passed : Table → ℕ → List Task
passed t i = row_to i (task_of t) ++ drop i (replicate max_tasks empty_task)

abbrev pub invariant-loop-i : goal.invariant-loop-i
invariant-loop-i l = l.tasks ≡ passed l.t l.i
