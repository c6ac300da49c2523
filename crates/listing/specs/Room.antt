-- What a line must be for the table to have room for what it says. No reader has to believe this: only the contract of a private function cites it.
use Rattle.std.specs.Prelude.{ℕ, ◌≤◌, ◌<◌}
use Rattle.table.specs.Limits.{max_tasks, max_resources}
use Rattle.line.specs.declared.Said.{Said}
use Rattle.line.specs.declared.Said.TheVariants.{Cpus, Group, Task as TaskLine, Alpha, Use}

-- the table has room for what a line says that follows so many tasks
abbrev pub Room : ℕ → Said → Type 0
Room tasks (Cpus M) = Unit {0}
Room tasks (Group G K) = (1 ≤ K.0) × (K.0 ≤ max_resources)
Room tasks (TaskLine T C D) = tasks < max_tasks
Room tasks (Alpha A) = (1 ≤ tasks) × (tasks ≤ max_tasks)
Room tasks (Use K p) = (1 ≤ tasks) × (tasks ≤ max_tasks) × (1 ≤ K.0) × (K.0 ≤ max_resources)
