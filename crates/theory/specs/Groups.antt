-- Request 9/12 of document 02: the merged pairs said a second way, without slots; and what holds of those of an accepted table.
use Rattle.std.specs.Prelude.{ℕ, ◌*◌, ◌≤◌, ◌<◌, ◌≡◌, eqb}
use Rattle.basics.specs.Choice.{only}
use Rattle.basics.specs.Over.{sum_to, max_to}
use Rattle.table.specs.declared.Pair.{Pair}
use Rattle.table.specs.declared.Task.{Task}
use Rattle.table.specs.declared.Table.{Table}
use Rattle.std.specs.Prelude.{Ok}
use Rattle.table.specs.Limits.{max_cpus, max_tasks, max_resources, max_time, max_count, max_alpha}
use Rattle.table.specs.Empty.{unused_pair}
use Rattle.table.specs.At.{a_pair, task_at, group_at, pair_of, pair_at, total_of}
use Rattle.table.specs.Rules.{table_fault}
use Rattle.table.specs.Accepted.{GoodTimes}
use Rattle.theory.specs.Merge.{merged}

-- ---- the figures of group G: the sum, the largest and the sum over all K whose group is G

abbrev pub member_of : Table → ℕ → (ℕ → ℕ) → ℕ → ℕ
member_of t G x j = only (eqb (group_at t j) G) (x j)

abbrev pub group_pair : Table → ℕ → ℕ → Pair
group_pair t i G =
    a_pair (sum_to max_resources (member_of t G (λ j. (pair_at t i j).requests)))
    (max_to max_resources (member_of t G (λ j. (pair_at t i j).longest)))
    (sum_to max_resources (member_of t G (total_of (task_at t i))))

-- task i + 1 of an accepted table, as the analysis reads it, and what it asks of its locks
pub record MergedPairs (t : Table) (i : ℕ) : Type 0 where
  -- its times are as they are
  pub period : (task_at (merged t) i).period ≡ (task_at t i).period
  pub run : (task_at (merged t) i).run ≡ (task_at t i).run
  pub deadline : (task_at (merged t) i).deadline ≡ (task_at t i).deadline
  -- a group's figures stand once, in the place of its first member, ..
  pub first : (k : ℕ) → k < max_resources → 1 ≤ group_at t k → ((j : ℕ) → j < k → group_at t j ≡ group_at t k → ⊥) → pair_at (merged t) i k ≡ group_pair t i (group_at t k)
  -- .. and nothing in the place of another
  pub other : (j k : ℕ) → k < max_resources → 1 ≤ group_at t k → j < k → group_at t j ≡ group_at t k → pair_at (merged t) i k ≡ unused_pair
  -- "An ungrouped resource stands by itself"
  pub alone : (k : ℕ) → k < max_resources → group_at t k ≡ 0 → pair_at (merged t) i k ≡ pair_at t i k

-- the two agree
abbrev pub MergedAgrees : Type 0
MergedAgrees = (t : Table) (i : ℕ) → table_fault t ≡ Ok tt → i < t.n → MergedPairs t i

-- ---- what holds of the merged pairs of an accepted table, so that sums and products of them fit

-- "the merged N may reach 16,000": no task asks for locks more often than this, for all of them together
abbrev pub max_requests : ℕ
max_requests = max_resources * max_count

pub record TaskInBounds (x : Task) : Type 0 where
  pub times : GoodTimes x.period x.run x.deadline
  pub alpha_most : x.alpha ≤ max_alpha
  pub requests : sum_to max_resources (λ k. (pair_of x k).requests) ≤ max_requests
  pub longest : (k : ℕ) → k < max_resources → (pair_of x k).longest ≤ max_time
  pub totals : sum_to max_resources (total_of x) ≤ x.run

pub record InBounds (t : Table) : Type 0 where
  pub tasks_most : t.n ≤ max_tasks
  pub cpus_least : 1 ≤ t.cpus
  pub cpus_most : t.cpus ≤ max_cpus
  pub task : (i : ℕ) → i < t.n → TaskInBounds (task_at t i)
