-- Request 9/12 of document 02, and the report's group locks (section II): a table with each group as one resource, which is what the analysis reads. "For the analysis a
-- group is one resource: N and CT are sums over its members, c the largest. .. An ungrouped resource stands by itself, never merged with a group of the same number."
-- Sixteen slots still serve: the figures of a group stand at the slot of its first member, and nothing at those of its others.
use Rattle.std.specs.Prelude.{ℕ, List, eqb, ltb, get_or}
use Rattle.basics.specs.Choice.{pick, only}
use Rattle.basics.specs.Over.{sum_to, max_to, first_to, row_to}
use Rattle.table.specs.declared.Pair.{Pair}
use Rattle.table.specs.declared.Task.{Task}
use Rattle.table.specs.declared.Table.{Table}
use Rattle.table.specs.Limits.{max_tasks, max_resources}
use Rattle.table.specs.Empty.{no_groups, empty_task}
use Rattle.table.specs.At.{a_pair, task_at, pair_of, total_of}
use Rattle.table.specs.Rules.{has_group}

-- the slot at which the figures of the resource at slot j stand: that of the first resource of its group; its own, if it has none
unfoldable pub slot_of : List ℕ → ℕ → ℕ
slot_of groups j = pick (eqb (get_or groups j 0) 0) j (first_to max_resources (λ k. eqb (get_or groups k 0) (get_or groups j 0)))

-- x of the resource at slot j, if its figures stand at slot k
abbrev pub part_at : List ℕ → ℕ → (ℕ → ℕ) → ℕ → ℕ
part_at groups k x j = only (eqb (slot_of groups j) k) (x j)

-- the pair at slot k: "N and CT are sums over its members, c the largest"
unfoldable pub merged_pair : List ℕ → Task → ℕ → Pair
merged_pair groups x k =
    a_pair (sum_to max_resources (part_at groups k (λ j. (pair_of x j).requests)))
    (max_to max_resources (part_at groups k (λ j. (pair_of x j).longest)))
    (sum_to max_resources (part_at groups k (total_of x)))

unfoldable pub merged_task : List ℕ → Task → Task
merged_task groups x = record { period = x.period; run = x.run; deadline = x.deadline; alpha = x.alpha; pairs = row_to max_resources (merged_pair groups x) }

-- the tasks of a table with groups, with their merged pairs
unfoldable pub grouped_tasks : Table → List Task
grouped_tasks t = row_to max_tasks (λ i. pick (ltb i t.n) (merged_task t.groups (task_at t i)) empty_task)

-- and of any table: without groups as they are
unfoldable pub merged_tasks : Table → List Task
merged_tasks t = pick (has_group t.groups) (grouped_tasks t) t.tasks

-- what the analysis reads: the merged pairs, as a table that has no groups left. N of a merged pair can be 16,000: the check is never asked of it
abbrev pub merged : Table → Table
merged t = record { cpus = t.cpus; n = t.n; groups = no_groups; tasks = merged_tasks t }
