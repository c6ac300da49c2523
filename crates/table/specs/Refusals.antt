-- Document 01, "Refusals by number", and requests 8/12 and 9/12 of document 02: the number and the place that a table handed over directly calls for, said a second way. `Rules` says it by tests in a chain
-- that the first fault ends; here each case stands by itself, in the paper's order, over bounds, and `RefusedAsCalled` says that the two agree.
use Rattle.std.specs.Prelude.{ℕ, ◌+◌, ◌*◌, ◌≤◌, ◌<◌, ◌≡◌, ◌⊎◌}
use Rattle.basics.specs.Over.{sum_to}
use Rattle.basics.specs.Exactly.{◌exactly_if◌}
use Rattle.table.specs.declared.Pair.{Pair}
use Rattle.table.specs.declared.Task.{Task}
use Rattle.table.specs.declared.Table.{Table}
use Rattle.std.specs.Prelude.{Ok}
use Rattle.table.specs.Limits.{max_cpus, max_tasks, max_resources, max_group, max_time, max_count, max_alpha}
use Rattle.table.specs.Empty.{unused_pair}
use Rattle.table.specs.At.{task_at, alpha_at, group_at, pair_at, total_of}
use Rattle.table.specs.Faults.{Refuses}
use Rattle.table.specs.Rules.{table_fault}
use Rattle.table.specs.Accepted.{GoodTo, GoodTask, Accepted}

-- ---- what 4, 5 and 7 do not refuse, of a table and of a listing's lines

abbrev pub InRange : ℕ → ℕ → ℕ → Type 0
InRange low high x = (low ≤ x) × (x ≤ high)

-- 4, of a task's times
pub record TimesInRange (T C D : ℕ) : Type 0 where
  pub period : InRange 1 max_time T
  pub run : InRange 1 max_time C
  pub deadline : InRange 1 max_time D

-- 5
pub record TimesInOrder (T C D : ℕ) : Type 0 where
  pub run_deadline : C ≤ D
  pub deadline_period : D ≤ T

-- either of these, of the times of a task
abbrev pub TimesIn : Task → (ℕ → ℕ → ℕ → Type 0) → Type 0
TimesIn x R = R x.period x.run x.deadline

-- 4, of a pair in use
pub record UsedInRange (p : Pair) : Type 0 where
  pub requests : InRange 1 max_count p.requests
  pub longest : InRange 1 max_time p.longest
  pub total : InRange 1 max_time p.total

-- 4, of a pair: "An unused pair has N, c and CT all 0"
abbrev pub PairInRange : Pair → Type 0
PairInRange p = (p ≡ unused_pair) ⊎ UsedInRange p

-- 7, with the sum of the CT so far, this pair's among them
pub record TotalsFit (p : Pair) (sum C : ℕ) : Type 0 where
  pub longest_total : p.longest ≤ p.total
  pub total_product : p.total ≤ p.requests * p.longest
  pub sum_run : sum ≤ C

-- ---- alpha

-- 17, "alpha given for some tasks only": of the first n tasks one has an alpha and one has none
pub record SomeOnly (t : Table) : Type 0 where
  pub with : ℕ
  pub without : ℕ
  pub with_in : with < t.n
  pub without_in : without < t.n
  pub given : 1 ≤ alpha_at t with
  pub none : alpha_at t without ≡ 0

-- 18, "alpha above that of the last task before with one": of the task at slot i
pub record RisesAt (t : Table) (i : ℕ) : Type 0 where
  pub before : ℕ
  pub earlier : before < i
  pub given : 1 ≤ alpha_at t before
  pub last : (j : ℕ) → before < j → j < i → alpha_at t j ≡ 0
  pub above : alpha_at t before < alpha_at t i

-- ---- the number that the task at slot i calls for

pub data TaskCallsFor (t : Table) (i : ℕ) : ℕ → Type 0 where
  -- "T, C, D (4)"
  out_of_range : (TimesIn (task_at t i) TimesInRange → ⊥) → TaskCallsFor t i 4
  -- alpha "above 64 is 4 right after D"
  alpha_out_of_range : TimesIn (task_at t i) TimesInRange → max_alpha < alpha_at t i → TaskCallsFor t i 4
  -- "then 18"
  alpha_rises : TimesIn (task_at t i) TimesInRange → alpha_at t i ≤ max_alpha → RisesAt t i → TaskCallsFor t i 18
  -- "then 5"
  bad_times : TimesIn (task_at t i) TimesInRange → alpha_at t i ≤ max_alpha → (RisesAt t i → ⊥) → (TimesIn (task_at t i) TimesInOrder → ⊥) → TaskCallsFor t i 5
  -- "then resources 1 to 16, each 4": resource k + 1, where nothing is said against the times, alpha and the resources before it
  pair_out_of_range : (k : ℕ) → k < max_resources → GoodTo (task_at t i) k → (RisesAt t i → ⊥) → (PairInRange (pair_at t i k) → ⊥) → TaskCallsFor t i 4
  -- "then 7"
  bad_totals : (k : ℕ) → k < max_resources → GoodTo (task_at t i) k → (RisesAt t i → ⊥) → PairInRange (pair_at t i k)
      → (TotalsFit (pair_at t i k) (sum_to (k + 1) (total_of (task_at t i))) (task_at t i).run → ⊥) → TaskCallsFor t i 7

-- ---- groups

-- what 4 does not refuse, of the groups
abbrev pub GroupsInRange : Table → Type 0
GroupsInRange t = (k : ℕ) → k < max_resources → group_at t k ≤ max_group

-- ---- the number and the place that a table calls for

pub data CallsFor (t : Table) : ℕ → ℕ → Type 0 where
  -- "A table handed over directly is checked too: 9"
  no_tasks : t.n < 1 → CallsFor t 9 0
  -- "8"
  too_many : max_tasks < t.n → CallsFor t 8 0
  -- "m (4), each with place 0"
  bad_cpus : InRange 1 max_tasks t.n → (InRange 1 max_cpus t.cpus → ⊥) → CallsFor t 4 0
  -- "a group above 16 is 4 with place 0, right after m": of any resource, used or not
  bad_group : (k : ℕ) → InRange 1 max_tasks t.n → InRange 1 max_cpus t.cpus → k < max_resources → max_group < group_at t k → CallsFor t 4 0
  -- 17, "place 0, .. after m in a table"
  alpha_missing : InRange 1 max_tasks t.n → InRange 1 max_cpus t.cpus → GroupsInRange t → SomeOnly t → CallsFor t 17 0
  -- "then task by task .., the place being the task number": task i + 1, where nothing is said against those before it. "Slots past the nth task are not looked at."
  at_task : (i : ℕ) {number : ℕ} → InRange 1 max_tasks t.n → InRange 1 max_cpus t.cpus → GroupsInRange t → (SomeOnly t → ⊥) → i < t.n
      → ((j : ℕ) → j < i → GoodTask (task_at t j) × (RisesAt t j → ⊥)) → TaskCallsFor t i number → CallsFor t number (i + 1)

-- ---- the two agree

pub record RefusedAsCalled : Type 0 where
  pub refused : (t : Table) (number place : ℕ) → Refuses (table_fault t) number place exactly_if CallsFor t number place
  -- and a table is accepted exactly if it holds the paper's bounds
  pub accepted : (t : Table) → (table_fault t ≡ Ok tt) exactly_if Accepted t
