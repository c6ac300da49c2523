-- A table with zeros past the nth task: what a reader makes of it, once it is written.
use Rattle.std.specs.Prelude.{◌≡◌, ltb}
use Rattle.basics.specs.Choice.{pick}
use Rattle.basics.specs.Over.{row_to}
use Rattle.table.specs.declared.Task.{Task}
use Rattle.table.specs.declared.Table.{Table}
use Rattle.std.specs.Prelude.{Ok}
use Rattle.table.specs.Limits.{max_tasks, max_resources}
use Rattle.table.specs.Empty.{empty_task}
use Rattle.table.specs.At.{task_at, group_at, pair_of, Same}
use Rattle.table.specs.Rules.{table_fault}

unfoldable pub cleared_task : Task → Task
cleared_task x = record { period = x.period; run = x.run; deadline = x.deadline; alpha = x.alpha; pairs = row_to max_resources (pair_of x) }

unfoldable pub cleared : Table → Table
cleared t =
    record {
      cpus = t.cpus;
      n = t.n;
      groups = row_to max_resources (group_at t);
      tasks = row_to max_tasks (λ i. pick (ltb i t.n) (cleared_task (task_at t i)) empty_task);
    }

-- which is the same table
abbrev pub ClearedSame : Type 0
ClearedSame = (t : Table) → table_fault t ≡ Ok tt → Same t (cleared t)
