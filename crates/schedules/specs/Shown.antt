-- Runs that show the theorem: one without end over an accepted table in which every task has a bound, and in it a job that takes exactly as long as its bound; and one of a task that has a bound and takes longer, since one that it reads
-- has none.
use Rattle.std.specs.Prelude.{ℕ, ◌≤◌, ◌<◌, ◌≡◌, true, false, List, [], ◌∷◌, get_or, replicate}
use Rattle.basics.specs.Text.{bytes}
use Rattle.basics.specs.Over.{count_to}
use Rattle.table.specs.declared.Table.{Table}
use Rattle.table.specs.declared.Pair.{Pair}
use Rattle.table.specs.declared.Task.{Task}
use Rattle.std.specs.Prelude.{Ok}
use Rattle.table.specs.Empty.{unused_pair, no_groups, empty_task}
use Rattle.table.specs.At.{a_pair, a_task}
use Rattle.table.specs.Rules.{table_fault}
use Rattle.theory.specs.View.{level}
use Rattle.theory.specs.Demand.{demand_of}
use Rattle.theory.specs.Bound.{Least, None}
use Rattle.theory.specs.Tables.{view_of}
use Rattle.schedules.specs.Jobs.{JobSet, Generated}
use Rattle.schedules.specs.Schedule.{Schedule, progress, pending, waits, priority, UnderPIP, Finished}
use Rattle.schedules.specs.Picture.{Picture, jobs_of, run_of}

-- on two processors, all with T and D 20: tasks 1 and 4 share a lock, and two stand between them
abbrev with1 : ℕ → Pair → Task
with1 C p = a_task 20 C 20 (p ∷ replicate 15 unused_pair)

unfoldable pub shown_table : Table
shown_table =
    record {
      cpus = 2;
      n = 4;
      groups = no_groups;
      tasks = with1 2 (a_pair 1 1 1) ∷ with1 3 unused_pair ∷ with1 3 unused_pair ∷ with1 5 (a_pair 1 3 3) ∷ replicate 28 empty_task;
    }

abbrev pub shown_bounds : List ℕ
shown_bounds = 5 ∷ 3 ∷ 11 ∷ 14 ∷ []

-- Tasks 1 and 4 come first. At 1 both want the lock, and 4 gets it; 2 and 3 come too. So that 1 does not have to wait for those as well, 4 runs at its priority until it releases the lock. From 7 on nothing is left to run
abbrev pub shown_picture : Picture
shown_picture =
    record {
      first = 0 ∷ 1 ∷ 1 ∷ 0 ∷ [];
      gaps = 20 ∷ 20 ∷ 20 ∷ 20 ∷ [];
      units = bytes "-1" ∷ bytes "---" ∷ bytes "---" ∷ bytes "-111-" ∷ [];
      doing =
          bytes "raaaR..............."
          ∷ bytes ".rrr................"
          ∷ bytes "....rrr............."
          ∷ bytes "rRRR.r.............."
          ∷ [];
      cycle = 20;
    }

abbrev pub shown_jobs : JobSet
shown_jobs = jobs_of shown_picture

abbrev pub shown_run : Schedule
shown_run = run_of shown_picture

pub record Shown : Type 0 where
  pub accepted : table_fault shown_table ≡ Ok tt
  pub bounded : (i : ℕ) → i < 4 → Least (demand_of (view_of shown_table) (level i)) ((view_of shown_table).D (level i)) (get_or shown_bounds i 0)
  pub generated : Generated (view_of shown_table) shown_jobs
  pub scheduled : (E : ℕ) → UnderPIP (view_of shown_table) shown_jobs shown_run E
  -- never do more than m run, and at 7 none
  pub places : (s : ℕ) → count_to 4 (shown_run.runs s) ≤ 2
  pub idle : count_to 4 (shown_run.runs 7) ≡ 0
  -- task 1 waits, and task 4, which has its lock, runs at its priority, while task 3, which is above it, is ready and does not run;
  pub waiting : waits (view_of shown_table) shown_jobs shown_run 1 0 ≡ true
  pub inherits : priority (view_of shown_table) shown_jobs shown_run 1 3 ≡ 0
  pub raised : (shown_run.runs 1 3 ≡ true) × (shown_run.runs 1 2 ≡ false) × (pending shown_jobs shown_run 1 2 ≡ true) × (waits (view_of shown_table) shown_jobs shown_run 1 2 ≡ false)
  -- the lock is handed over, and task 4 is preempted, being ready;
  pub handed : (shown_run.holds 3 3 ≡ true) × (shown_run.holds 4 0 ≡ true)
  pub preempted : (shown_run.runs 3 3 ≡ true) × (shown_run.runs 4 3 ≡ false) × (pending shown_jobs shown_run 4 3 ≡ true) × (waits (view_of shown_table) shown_jobs shown_run 4 3 ≡ false)
  -- and the first job of task 1, released at 0, is not finished at 4, and is at 5, its bound
  pub sharp : ((progress shown_jobs shown_run 4 0).job ≡ 0) × ((progress shown_jobs shown_run 5 0).job ≡ 1)

-- ---- beside a task that has no bound

-- On two processors. The first task has D 3 and waits up to 5 for the third, so it has no bound. The second shares another lock with it, and has the bound 4
unfoldable pub miss_table : Table
miss_table =
    record {
      cpus = 2;
      n = 3;
      groups = no_groups;
      tasks =
          a_task 6 3 3 (a_pair 1 1 1 ∷ a_pair 1 1 1 ∷ replicate 14 unused_pair)
          ∷ a_task 20 3 20 (unused_pair ∷ a_pair 2 1 2 ∷ replicate 14 unused_pair)
          ∷ a_task 20 5 20 (a_pair 1 5 5 ∷ replicate 15 unused_pair)
          ∷ replicate 29 empty_task;
    }

-- The first job of the first task is so late that its second follows at once: the second task waits for the lock of each, at 7 and at 10, and its demand has one of them
abbrev pub miss_picture : Picture
miss_picture =
    record {
      first = 0 ∷ 7 ∷ 0 ∷ [];
      gaps = 6 ∷ 20 ∷ 20 ∷ [];
      units = bytes "1-2" ∷ bytes "2-2" ∷ bytes "11111" ∷ [];
      doing =
          bytes "aaaaaRrRRrR"
          ∷ bytes ".......aRra"
          ∷ bytes "RRRRR......"
          ∷ [];
      cycle = 20;
    }

pub record BesideMiss : Type 0 where
  pub accepted : table_fault miss_table ≡ Ok tt
  pub misses : None (demand_of (view_of miss_table) (level 0)) ((view_of miss_table).D (level 0))
  pub meets : Least (demand_of (view_of miss_table) (level 1)) ((view_of miss_table).D (level 1)) 4
  pub generated : Generated (view_of miss_table) (jobs_of miss_picture)
  pub scheduled : UnderPIP (view_of miss_table) (jobs_of miss_picture) (run_of miss_picture) 11
  -- the first job of the second task, released at 7, is not finished at 11
  pub longer : Finished (jobs_of miss_picture) (run_of miss_picture) 1 0 11 → ⊥
