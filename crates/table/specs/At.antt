-- A task and a pair, by their figures and by index, counted from 0, and when two tables are the same.
use Rattle.std.specs.Prelude.{ℕ, ◌<◌, ◌≡◌, List, [], get_or}
use Rattle.table.specs.declared.Pair.{Pair}
use Rattle.table.specs.declared.Task.{Task}
use Rattle.table.specs.declared.Table.{Table}
use Rattle.table.specs.Limits.{max_resources}
use Rattle.table.specs.Empty.{unused_pair, no_groups}

-- what the checker reads past a row's end, so that `task_at t i` is the code's `t.tasks[i]`
abbrev pub no_task : Task
no_task = record { period = 0; run = 0; deadline = 0; alpha = 0; pairs = [] }

-- a pair of N, c and CT; and a task of T, C, D and pairs, without alpha, and one with it
abbrev pub a_pair : ℕ → ℕ → ℕ → Pair
a_pair N c CT = record { requests = N; longest = c; total = CT }

abbrev pub a_task : ℕ → ℕ → ℕ → List Pair → Task
a_task T C D pairs = record { period = T; run = C; deadline = D; alpha = 0; pairs = pairs }

abbrev pub with_alpha : ℕ → Task → Task
with_alpha A x = record { period = x.period; run = x.run; deadline = x.deadline; alpha = A; pairs = x.pairs }

-- a table of m processors and n tasks, without groups, and one with them
abbrev pub a_table : ℕ → ℕ → List Task → Table
a_table m n tasks = record { cpus = m; n = n; groups = no_groups; tasks = tasks }

abbrev pub with_groups : List ℕ → Table → Table
with_groups groups t = record { cpus = t.cpus; n = t.n; groups = groups; tasks = t.tasks }

-- task i + 1 of the paper
abbrev pub task_at : Table → ℕ → Task
task_at t i = get_or t.tasks i no_task

-- and its alpha, 0 for none
abbrev pub alpha_at : Table → ℕ → ℕ
alpha_at t i = (task_at t i).alpha

-- none of the n tasks has one
abbrev pub NoAlpha : Table → Type 0
NoAlpha t = (i : ℕ) → i < t.n → alpha_at t i ≡ 0

-- resource k + 1 of a task
abbrev pub pair_of : Task → ℕ → Pair
pair_of x k = get_or x.pairs k unused_pair

abbrev pub pair_at : Table → ℕ → ℕ → Pair
pair_at t i k = pair_of (task_at t i) k

-- CT of resource k + 1 of a task
abbrev pub total_of : Task → ℕ → ℕ
total_of x k = (pair_of x k).total

-- the group of resource k + 1, 0 for none
abbrev pub group_at : Table → ℕ → ℕ
group_at t k = get_or t.groups k 0

-- no resource has one
abbrev pub NoGroup : Table → Type 0
NoGroup t = (k : ℕ) → k < max_resources → group_at t k ≡ 0

-- "Two tables are the same if processors, n and the first n tasks agree"; "tables are the same only if [alpha] agrees too" (document 02, 8/12); "the table carries the groups, .. and sameness reads them" (9/12)
pub record SameTask (x y : Task) : Type 0 where
  pub period : x.period ≡ y.period
  pub run : x.run ≡ y.run
  pub deadline : x.deadline ≡ y.deadline
  pub alpha : x.alpha ≡ y.alpha
  pub pairs : (k : ℕ) → k < max_resources → pair_of x k ≡ pair_of y k

pub record Same (a b : Table) : Type 0 where
  pub cpus : a.cpus ≡ b.cpus
  pub n : a.n ≡ b.n
  pub groups : (k : ℕ) → k < max_resources → group_at a k ≡ group_at b k
  pub tasks : (i : ℕ) → i < a.n → SameTask (task_at a i) (task_at b i)
