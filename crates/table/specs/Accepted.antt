-- Document 01, "Quantities", alpha of request 8/12 and the groups of 9/12 of document 02, as bounds: what holds of a table that the check finds nothing against.
use Rattle.std.specs.Prelude.{ℕ, suc, ◌*◌, ◌≤◌, ◌<◌, ◌≡◌, ◌⊎◌}
use Rattle.basics.specs.Over.{sum_to}
use Rattle.table.specs.declared.Pair.{Pair}
use Rattle.table.specs.declared.Task.{Task}
use Rattle.table.specs.declared.Table.{Table}
use Rattle.table.specs.Limits.{max_cpus, max_tasks, max_resources, max_group, max_time, max_count, max_alpha}
use Rattle.table.specs.Empty.{unused_pair}
use Rattle.table.specs.At.{task_at, alpha_at, group_at, pair_of, total_of}

-- 1 ≤ C ≤ D ≤ T ≤ 10,000,000
pub record GoodTimes (T C D : ℕ) : Type 0 where
  pub run_least : 1 ≤ C
  pub run_deadline : C ≤ D
  pub deadline_period : D ≤ T
  pub period_most : T ≤ max_time

-- a pair in use: 1 ≤ N ≤ 1,000, 1 ≤ c ≤ CT ≤ N × c, CT ≤ 10,000,000
pub record GoodPair (p : Pair) : Type 0 where
  pub requests_least : 1 ≤ p.requests
  pub requests_most : p.requests ≤ max_count
  pub longest_least : 1 ≤ p.longest
  pub longest_total : p.longest ≤ p.total
  pub total_product : p.total ≤ p.requests * p.longest
  pub total_most : p.total ≤ max_time

-- a task, as far as its first n resources: its times, its alpha, each pair, and the sum of their CT
pub record GoodTo (x : Task) (n : ℕ) : Type 0 where
  pub times : GoodTimes x.period x.run x.deadline
  pub alpha_most : x.alpha ≤ max_alpha
  pub pair : (k : ℕ) → k < n → (pair_of x k ≡ unused_pair) ⊎ GoodPair (pair_of x k)
  pub totals : sum_to n (total_of x) ≤ x.run

abbrev pub GoodTask : Task → Type 0
GoodTask x = GoodTo x max_resources

pub record Accepted (t : Table) : Type 0 where
  pub tasks_least : 1 ≤ t.n
  pub tasks_most : t.n ≤ max_tasks
  pub cpus_least : 1 ≤ t.cpus
  pub cpus_most : t.cpus ≤ max_cpus
  -- groups: "1 to 16", "0 for none"
  pub groups_most : (k : ℕ) → k < max_resources → group_at t k ≤ max_group
  -- alpha: "for all tasks or none; A never rises from one task to the next"
  pub all_or_none : (i j : ℕ) → i < t.n → j < t.n → 1 ≤ alpha_at t i → 1 ≤ alpha_at t j
  pub never_rises : (i : ℕ) → suc i < t.n → alpha_at t (suc i) ≤ alpha_at t i
  pub task : (i : ℕ) → i < t.n → GoodTask (task_at t i)
