-- The empty table: no task, no group, and zeros in every slot.
use Rattle.std.specs.Prelude.{ℕ, List, replicate}
use Rattle.table.specs.declared.Pair.{Pair}
use Rattle.table.specs.declared.Task.{Task}
use Rattle.table.specs.declared.Table.{Table}
use Rattle.table.specs.Limits.{max_tasks, max_resources}

-- "An unused pair has N, c and CT all 0"
abbrev pub unused_pair : Pair
unused_pair = record { requests = 0; longest = 0; total = 0 }

-- no resource has a group
abbrev pub no_groups : List ℕ
no_groups = replicate max_resources 0

unfoldable pub empty_task : Task
empty_task = record { period = 0; run = 0; deadline = 0; alpha = 0; pairs = replicate max_resources unused_pair }

unfoldable pub empty_table : Table
empty_table = record { cpus = 0; n = 0; groups = no_groups; tasks = replicate max_tasks empty_task }
