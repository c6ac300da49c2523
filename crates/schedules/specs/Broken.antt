-- Runs in which a job takes longer than its task's bound: for each fact about a kernel one in which it alone is broken, and on kernels of other kinds.
use Rattle.std.specs.Prelude.{ℕ, pred, ◌&&◌, List, [], ◌∷◌, map, eqb, length, get_or}
use Prim.Native.String.{String}
use Rattle.basics.specs.Choice.{only}
use Rattle.basics.specs.Over.{count_to}
use Rattle.basics.specs.Text.{bytes}
use Rattle.theory.specs.View.{View}
use Rattle.schedules.specs.Jobs.{in_lock}
use Rattle.schedules.specs.Schedule.{KernelFact, runs_pending, runs_locked, conserves, one_holder, holds_pending, holds_lock, keeps, goes_on, asked_on, not_past}
use Rattle.schedules.specs.Wrong.{OtherKernel, spins, no_inheritance}
use Rattle.schedules.specs.Picture.{Picture, jobs_of}

-- one task of such a run: when its job is released, a length that covers its demand, the job's units and what it does
pub record DrawnTask : Type 0 where
  pub first : ℕ
  pub covering : ℕ
  pub units : List ℕ
  pub doing : List ℕ

abbrev pub drawn : ℕ → ℕ → String → String → DrawnTask
drawn first covering units doing = record { first = first; covering = covering; units = bytes units; doing = bytes doing }

-- the slot of the task that is late; and the tasks, the highest first
pub record LateRun : Type 0 where
  pub cpus : ℕ
  pub late : ℕ
  pub tasks : List DrawnTask

abbrev pub on_cpus : ℕ → ℕ → List DrawnTask → LateRun
on_cpus cpus late tasks = record { cpus = cpus; late = late; tasks = tasks }

-- Each is drawn up to the instant at which the late job is to be finished, in the letters of `Picture`
unfoldable pub broken_run : KernelFact → LateRun
-- the first runs a job that is not there yet, and the second has no processor
broken_run runs_pending =
    on_cpus 1 1
    (drawn 0 1 "-" "rr"
    ∷ drawn 0 2 "-" ".."
    ∷ [])
-- The third starts its request without the lock, which the second has, and is in the midst of it when the lock is free: so it did not get it past the first. The first waits for both
broken_run runs_locked =
    on_cpus 2 0
    (drawn 0 3 "1" "aaa"
    ∷ drawn 0 5 "11" "RR."
    ∷ drawn 1 5 "11" ".rR"
    ∷ [])
-- nobody runs
broken_run conserves = on_cpus 1 0 (drawn 0 1 "-" "." ∷ [])
-- two have the lock that the first waits for, and it waits for one after the other
broken_run one_holder =
    on_cpus 1 0
    (drawn 0 2 "1" "aa"
    ∷ drawn 0 4 "1" "R."
    ∷ drawn 0 3 "1" "hR"
    ∷ [])
-- the second has the lock before its job is there to run, and the first waits until then
broken_run holds_pending =
    on_cpus 1 0
    (drawn 0 2 "1" "aa"
    ∷ drawn 9 2 "1" "hh"
    ∷ [])
-- neither needs a lock, and yet the first waits for the second as if that had one
broken_run holds_lock =
    on_cpus 1 0
    (drawn 0 1 "-" "a"
    ∷ drawn 0 2 "-" "R"
    ∷ [])
-- The second waited for the third and has the lock. While the first runs, it loses the lock, the fourth gets it, and the second waits again for the same request.
-- If it had been taken for one that has asked, no lower one would have got the lock: see `not_past`
broken_run keeps =
    on_cpus 1 1
    (drawn 2 1 "-" "..r."
    ∷ drawn 0 4 "11" "aRHa"
    ∷ drawn 0 6 "1" "R..."
    ∷ drawn 0 5 "1" "...R"
    ∷ [])
-- the first waited for the second, runs one unit with the lock, loses it to the third before the next, and waits again for the same request
broken_run goes_on =
    on_cpus 1 0
    (drawn 0 3 "11" "aRa"
    ∷ drawn 0 5 "1" "R.."
    ∷ drawn 0 4 "1" "..R"
    ∷ [])
-- The second waited for the third. While the first runs, it is not among those that have asked, so the fourth gets the lock, and the second waits again for the same request
broken_run asked_on =
    on_cpus 1 1
    (drawn 1 1 "-" ".r."
    ∷ drawn 0 3 "1" "a.a"
    ∷ drawn 0 5 "1" "R.."
    ∷ drawn 0 4 "1" "..R"
    ∷ [])
-- the first waits for the second, and the lock goes to the third, which is lower
broken_run not_past =
    on_cpus 1 0
    (drawn 0 2 "1" "aa"
    ∷ drawn 0 4 "1" "R."
    ∷ drawn 0 3 "1" "aR"
    ∷ [])

unfoldable pub other_run : OtherKernel → LateRun
-- the first spins on one processor, the third, which has its lock, runs on the other, and the second has none
other_run spins =
    on_cpus 2 1
    (drawn 1 3 "1" ".a"
    ∷ drawn 1 1 "-" ".."
    ∷ drawn 0 4 "11" "RR"
    ∷ [])
-- the first waits for the third, whose priority is not raised, and the second runs
other_run no_inheritance =
    on_cpus 1 0
    (drawn 1 3 "1" ".aaa"
    ∷ drawn 1 9 "---" ".rrr"
    ∷ drawn 0 9 "11" "Rhhh"
    ∷ [])

module _ (b : LateRun) where
  abbrev pub picture_of : Picture
  picture_of =
      record { first = map (λ t. t.first) b.tasks; gaps = map (λ t. 20) b.tasks; cycle = 20; units = map (λ t. t.units) b.tasks; doing = map (λ t. t.doing) b.tasks }

  abbrev pub lengths_of : ℕ → ℕ
  lengths_of i = get_or (map (λ t. t.covering) b.tasks) i 0

  -- how many units a task's job has, how many with the lock, of which there is one, and how many requests
  abbrev run_of_task : ℕ → ℕ
  run_of_task l = (jobs_of picture_of).cost l 0

  abbrev locked_of_task : ℕ → ℕ
  locked_of_task l = count_to (run_of_task l) (in_lock (jobs_of picture_of) l 0 0)

  abbrev requests_of_task : ℕ → ℕ
  requests_of_task l = count_to (run_of_task l) (λ u. in_lock (jobs_of picture_of) l 0 0 u && (jobs_of picture_of).starts l 0 u)

  -- a table with figures for these jobs, T 20 and D 10 for all, and c as large as CT
  abbrev pub system_of : View
  system_of =
      record {
        cpus = b.cpus;
        n = length b.tasks;
        T = λ l. 20;
        C = λ l. run_of_task (pred l.0);
        D = λ l. 10;
        N = λ l k. only (eqb k.0 1) (requests_of_task (pred l.0));
        c = λ l k. only (eqb k.0 1) (locked_of_task (pred l.0));
        CT = λ l k. only (eqb k.0 1) (locked_of_task (pred l.0));
      }
