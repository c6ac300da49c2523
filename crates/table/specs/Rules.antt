-- Document 01, "Refusals by number": the rules 4, 5 and 7, and of request 8/12 of document 02 the rules 17 and 18, which a table and a listing are both held to,
-- and the check of a table that is handed over directly. `place` is where a fault is told: a line, or a task's number.
use Rattle.std.specs.Prelude.{ℕ, zero, suc, ◌+◌, ◌*◌, Bool, not, ◌&&◌, ◌||◌, List, leb, ltb, eqb, get_or}
use Rattle.basics.specs.Choice.{pick, within}
use Rattle.basics.specs.Over.{sum_to, count_to, all_to}
use Rattle.table.specs.declared.Level.{Level}
use Rattle.table.specs.declared.Pair.{Pair}
use Rattle.table.specs.declared.Task.{Task}
use Rattle.table.specs.declared.Table.{Table}
use Rattle.table.specs.Faults.{Checked}
use Rattle.table.specs.declared.Fault.TheVariants.{OutOfRange, BadTimes, BadTotals, TooManyTasks, NoTask, UnknownTask, AlphaMissing, AlphaRises}
use Rattle.table.specs.Limits.{max_cpus, max_tasks, max_resources, max_group, max_time, max_count, max_alpha}
use Rattle.table.specs.At.{task_at, alpha_at, pair_of, total_of}
use Rattle.table.specs.Faults.{◌then◌, unless, first_fault}

-- "any time 1 to 10,000,000"
abbrev pub is_time : ℕ → Bool
is_time x = within 1 max_time x

-- 4, of a task's times
unfoldable pub times_in_range : ℕ → ℕ → ℕ → Bool
times_in_range T C D = is_time T && is_time C && is_time D

-- 5 is "C above D, or D above T"
unfoldable pub times_in_order : ℕ → ℕ → ℕ → Bool
times_in_order T C D = leb C D && leb D T

-- 4, then 5, of a `task` line: "within a line 2, 3, 8, 4, 5"
unfoldable pub times_fault : ℕ → ℕ → ℕ → ℕ → Checked
times_fault place T C D =
    unless (times_in_range T C D) OutOfRange place then
    unless (times_in_order T C D) BadTimes place

-- ---- groups (request 9/12)

-- 4: "in a table handed over, a group above 16"; all sixteen are looked at, also those of resources that nobody uses
unfoldable pub groups_in_range : List ℕ → Bool
groups_in_range groups = all_to max_resources (λ k. leb (get_or groups k 0) max_group)

-- "a table that has a group": some resource has one, used or not
unfoldable pub has_group : List ℕ → Bool
has_group groups = not (all_to max_resources (λ k. eqb (get_or groups k 0) 0))

-- ---- alpha (request 8/12)

-- 17 is "alpha given for some tasks only": of n tasks so many have one
abbrev pub all_or_none : ℕ → ℕ → Bool
all_or_none given n = eqb given 0 || eqb given n

-- 18 is "alpha above that of the last task before with one"; `last` is that one, 0 where there is none
abbrev pub may_follow : ℕ → ℕ → Bool
may_follow last A = eqb last 0 || leb A last

-- "above 64 is 4 .., then 18"
unfoldable pub alpha_fault : ℕ → ℕ → ℕ → Checked
alpha_fault place last A =
    unless (leb A max_alpha) OutOfRange place then
    unless (may_follow last A) AlphaRises place

-- ---- pairs

-- "An unused pair has N, c and CT all 0"; else it is 4
unfoldable pub is_unused : Pair → Bool
is_unused p = eqb p.longest 0 && eqb p.total 0

-- 4, of a pair in use: "request counts 1 to 1,000", and times
unfoldable pub used_in_range : Pair → Bool
used_in_range p = within 1 max_count p.requests && is_time p.longest && is_time p.total

unfoldable pub pair_in_range : Pair → Bool
pair_in_range p = pick (eqb p.requests 0) (is_unused p) (used_in_range p)

-- 7 is "c ≤ CT ≤ N × c fails, or the CT so far sum above C"; `sum` is the CT so far, this pair's among them
unfoldable pub totals_fit : Pair → ℕ → ℕ → Bool
totals_fit p sum C = leb p.longest p.total && leb p.total (p.requests * p.longest) && leb sum C

-- "each 4 then 7"
unfoldable pub pair_fault : ℕ → Pair → ℕ → ℕ → Checked
pair_fault place p sum C =
    unless (pair_in_range p) OutOfRange place then
    unless (totals_fit p sum C) BadTotals place

-- resource k + 1 of a task
abbrev pub pair_fault_of : ℕ → Task → ℕ → Checked
pair_fault_of place x k = pair_fault place (pair_of x k) (sum_to (k + 1) (total_of x)) x.run

-- "resources 1 to 16"
unfoldable pub pairs_fault : ℕ → Task → Checked
pairs_fault place x = first_fault max_resources (pair_fault_of place x)

-- ---- a table

-- one task after alpha `last`: "T, C, D (4)"; alpha "above 64 is 4 right after D, then 18, then 5"; then its pairs
unfoldable pub task_fault : ℕ → ℕ → Task → Checked
task_fault place last x =
    unless (times_in_range x.period x.run x.deadline) OutOfRange place then
    alpha_fault place last x.alpha then
    unless (times_in_order x.period x.run x.deadline) BadTimes place then
    pairs_fault place x

-- a task has an alpha: "alpha 0 is none"; and how many of the first n tasks have one
abbrev pub has_alpha : Table → ℕ → Bool
has_alpha t i = ltb 0 (alpha_at t i)

abbrev pub alphas_to : Table → ℕ → ℕ
alphas_to t n = count_to n (has_alpha t)

-- the last alpha, once a task with alpha A, or none, is passed; and that of the last with one among the first i tasks, 0 where there is none
abbrev pub next_alpha : ℕ → ℕ → ℕ
next_alpha last A = pick (ltb 0 A) A last

unfoldable pub last_alpha : Table → ℕ → ℕ
last_alpha t zero = 0
last_alpha t (suc i) = next_alpha (last_alpha t i) (alpha_at t i)

-- "task by task .., the place being the task number"; "slots past the nth task are not looked at"
abbrev pub task_fault_at : Table → ℕ → Checked
task_fault_at t i = task_fault (i + 1) (last_alpha t i) (task_at t i)

unfoldable pub tasks_fault : Table → Checked
tasks_fault t = first_fault t.n (task_fault_at t)

-- "A table handed over directly is checked too: 9, 8, m (4), each with place 0; then task by task"; a group above 16 "is 4 with place 0, right after m";
-- 17, "place 0, .. after m in a table"
unfoldable pub table_fault : Table → Checked
table_fault t =
    unless (leb 1 t.n) NoTask 0 then
    unless (leb t.n max_tasks) TooManyTasks 0 then
    unless (within 1 max_cpus t.cpus) OutOfRange 0 then
    unless (groups_in_range t.groups) OutOfRange 0 then
    unless (all_or_none (alphas_to t t.n) t.n) AlphaMissing 0 then
    tasks_fault t

-- ---- a task of it

-- 10, after the table's own: "the task asked about is 0 or above n"
abbrev pub asked_fault : ℕ → Level → Checked
asked_fault n i = unless (within 1 n i.0) UnknownTask 0
