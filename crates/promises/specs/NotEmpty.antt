-- The one result of `NoEasier` is not said of nothing: pairs of tables, computed. Most are case A of the paper, and case A with some of its figures changed.
use Rattle.std.specs.Prelude.{ℕ, ◌-◌, ◌≡◌, List, [], ◌∷◌, ◌++◌, length, replicate}
use Prim.Native.String.{String}
use Rattle.table.specs.declared.Fault.TheVariants.{BadTotals}
use Rattle.table.specs.declared.Pair.{Pair}
use Rattle.table.specs.declared.Task.{Task}
use Rattle.table.specs.declared.Table.{Table}
use Rattle.table.specs.Faults.{at}
use Rattle.table.specs.Limits.{max_tasks, max_resources}
use Rattle.table.specs.Empty.{unused_pair, empty_task}
use Rattle.table.specs.At.{a_pair, a_task, a_table}
use Rattle.table.specs.Rules.{table_fault}
use Rattle.theory.specs.View.{View}
use Rattle.theory.specs.Bound.{Least, None}
use Rattle.promises.specs.Words.{read_table}
use Rattle.promises.specs.Demand2.{demand_in, deadline_in}
use Rattle.promises.specs.NoEasier.{NoEasier, Harder, Longer, LongerButFree, Related}

-- a task of T, C and D that uses at most the first resource
abbrev pub using1 : ℕ → ℕ → ℕ → Pair → Task
using1 T C D p = a_task T C D (p ∷ replicate (max_resources - 1) unused_pair)

-- these tasks on m processors
unfoldable pub on : ℕ → List Task → Table
on m tasks = a_table m (length tasks) (tasks ++ replicate (max_tasks - length tasks) empty_task)

-- the tasks of case A, which is on two processors
abbrev pub one : Task
one = using1 10_000 2_500 10_000 (a_pair 1 500 500)

abbrev pub two : Task
two = using1 20_000 4_000 15_000 unused_pair

abbrev pub three : Task
three = using1 30_000 6_000 30_000 (a_pair 2 750 1_500)

abbrev pub tasks_A : List Task
tasks_A = one ∷ two ∷ three ∷ []

-- from a table to one that is so related to it, the bound of the task at slot i goes from u to w
pub record Moves (R : View → View → Type 0) (a b : Table) (i u w : ℕ) : Type 0 where
  pub related : Related R a b
  pub before : Least (demand_in a i) (deadline_in a i) u
  pub after : Least (demand_in b i) (deadline_in b i) w

-- and here it is u in the first, and in the second the task misses
pub record Lost (R : View → View → Type 0) (a b : Table) (i u : ℕ) : Type 0 where
  pub related : Related R a b
  pub before : Least (demand_in a i) (deadline_in a i) u
  pub after : None (demand_in b i) (deadline_in b i)

-- ---- demand 3

pub record HarderShown : Type 0 where
  -- a longer request below: task 1 waits longer for it
  pub longer_request : Moves Harder (on 2 tasks_A) (on 2 (one ∷ two ∷ using1 30_000 6_000 30_000 (a_pair 2 1_000 1_500) ∷ [])) 0 3_250 3_500
  -- more requests: it waits so often that no bound up to its deadline is left
  pub oftener : Lost Harder (on 2 tasks_A) (on 2 (using1 10_000 2_500 10_000 (a_pair 20 500 500) ∷ two ∷ three ∷ [])) 0 3_250
  -- fewer processors: task 2 loses the short form
  pub fewer : Moves Harder (on 2 tasks_A) (on 1 tasks_A) 1 4_000 14_500
  -- and of task 3, which is below the m-th: fewer processors, a shorter period above it, a task added at the bottom
  pub fewer_third : Moves Harder (on 2 tasks_A) (on 1 tasks_A) 2 14_500 22_000
  pub shorter : Moves Harder (on 1 tasks_A) (on 1 (one ∷ using1 15_000 4_000 15_000 unused_pair ∷ three ∷ [])) 2 22_000 28_000
  pub added : Moves Harder (on 2 tasks_A) (on 2 (one ∷ two ∷ three ∷ using1 40_000 3_000 40_000 (a_pair 1 900 900) ∷ [])) 2 14_500 17_200

-- ---- request 7/12

-- case A with two requests of task 1 for its lock, that C and that CT
abbrev pub holding1 : ℕ → ℕ → List Task
holding1 C CT = using1 10_000 C 10_000 (a_pair 2 500 CT) ∷ two ∷ three ∷ []

pub record LongerShown : Type 0 where
  -- task 2 runs longer, and the bound of task 3 grows
  pub longer : Moves Longer (on 2 tasks_A) (on 2 (one ∷ using1 20_000 5_000 15_000 unused_pair ∷ three ∷ [])) 2 14_500 15_500
  -- task 1 holds its lock longer, and runs so much longer: a total that N times c leaves room for
  pub held : Moves Longer (on 2 (holding1 2_500 500)) (on 2 (holding1 3_000 1_000)) 2 14_500 16_000
  -- on one processor task 2 with its longer run time misses itself
  pub missed : Lost Longer (on 1 tasks_A) (on 1 (one ∷ using1 20_000 5_000 15_000 unused_pair ∷ three ∷ [])) 1 14_500

-- ---- both at once

pub record BothShown : Type 0 where
  -- task 2 has a shorter period and runs longer (the period alone: `shorter` above)
  pub both : Moves NoEasier (on 1 tasks_A) (on 1 (one ∷ using1 15_000 4_500 15_000 unused_pair ∷ three ∷ [])) 2 22_000 29_500
  -- task 1 holds its lock, once, half a millisecond longer, and runs so much longer
  pub once_longer : Moves NoEasier (on 2 tasks_A) (on 2 (using1 10_000 3_000 10_000 (a_pair 1 1_000 1_000) ∷ two ∷ three ∷ [])) 2 14_500 16_000
  -- and neither change can be made without the other: with demand 3's alone the longest request is above the total, with request 7/12's alone the total is above N times it
  pub request_alone : table_fault (on 2 (using1 10_000 2_500 10_000 (a_pair 1 1_000 500) ∷ two ∷ three ∷ [])) ≡ at BadTotals 1
  pub total_alone : table_fault (on 2 (using1 10_000 3_000 10_000 (a_pair 1 500 1_000) ∷ two ∷ three ∷ [])) ≡ at BadTotals 1

-- ---- why C less all CT is named: a longer lock time inside the same C can help another task

-- task 1 holds its lock for 1 ms of the 2 that it runs, examples/holding.txt; and for both, examples/holding-longer.txt
abbrev pub holding : String
holding = "cpus 1\ntask 3 2 2\nuse 1 2 1 1\ntask 5 1 5\n"

abbrev pub holding_longer : String
holding_longer = "cpus 1\ntask 3 2 2\nuse 1 2 1 2\ntask 5 1 5\n"

pub record NotEmpty : Type 0 where
  pub harder : HarderShown
  pub longer : LongerShown
  pub at_once : BothShown
  -- nothing else changes; what it runs without the lock goes from 1 ms to none, and the bound of task 2 falls
  pub falls : Moves LongerButFree (read_table holding) (read_table holding_longer) 1 5_000 3_000
