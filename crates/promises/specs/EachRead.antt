-- What a verdict reads (`Reads`), computed on case A of the paper and on case A with some of its figures changed: that much may change and a bound stay, and that for each kind of figures that is read
-- there are two tables which agree on all others and give a task another bound.
use Rattle.std.specs.Prelude.{ℕ, ◌-◌, List, [], ◌∷◌, replicate}
use Rattle.table.specs.declared.Pair.{Pair}
use Rattle.table.specs.declared.Task.{Task}
use Rattle.table.specs.declared.Table.{Table}
use Rattle.table.specs.Limits.{max_resources}
use Rattle.table.specs.Empty.{unused_pair}
use Rattle.table.specs.At.{a_pair, a_task}
use Rattle.theory.specs.View.{level}
use Rattle.promises.specs.NotEmpty.{using1, on, one, two, three, tasks_A, holding1, Moves, Lost}
use Rattle.promises.specs.Reads.{Above, FigureKind, processors, tasks, run, deadline, requests, period_above, deadline_above, shared, other, free, period_below, deadline_below, high, longest, SameRead, SameBut, OnlyRun, SameWhereRead, SameByFirst}

-- what is read of the task at slot i is the same in both tables, and so is its bound
abbrev pub Stays : Table → Table → ℕ → ℕ → Type 0
Stays a b i u = Moves (λ v w. SameRead v w (level i)) a b i u u

-- all kinds but one agree for the task at slot i, and its bound goes from u to w; or it has none in the second
abbrev pub Tells : FigureKind → Table → Table → ℕ → ℕ → ℕ → Type 0
Tells k a b i = Moves (λ v w. SameBut k v w (level i)) a b i

abbrev pub TellsMiss : FigureKind → Table → Table → ℕ → ℕ → Type 0
TellsMiss k a b i = Lost (λ v w. SameBut k v w (level i)) a b i

-- case A with another first, second or third task
abbrev pub with_first : Task → List Task
with_first x = x ∷ two ∷ three ∷ []

abbrev pub with_second : Task → List Task
with_second x = one ∷ x ∷ three ∷ []

abbrev pub with_third : Task → List Task
with_third x = one ∷ two ∷ x ∷ []

-- and with one more task
abbrev pub with_fourth : Task → List Task
with_fourth x = one ∷ two ∷ three ∷ x ∷ []

-- a task that uses the second resource alone
abbrev pub using2 : ℕ → ℕ → ℕ → Pair → Task
using2 T C D p = a_task T C D (unused_pair ∷ p ∷ replicate (max_resources - 2) unused_pair)

-- a lot may change that is not read
pub record Unread : Type 0 where
  -- of task 1, the highest: all that the others have but the longest request for its lock
  pub below : Stays (on 2 tasks_A) (on 2 (one ∷ using1 50_000 20_000 25_000 unused_pair ∷ using1 40_000 9_000 20_000 (a_pair 5 750 3_000) ∷ [])) 0 3_250
  -- of task 2, which has the short form and no lock: all that the others have
  pub short : Stays (on 2 tasks_A) (on 2 (using1 3_000 2_900 3_000 (a_pair 1 2_000 2_000) ∷ two ∷ using1 7_000 7_000 7_000 unused_pair ∷ [])) 1 4_000
  -- of task 3, which has the long form: all that a task below it has whose lock no task above it uses
  pub long : Stays (on 2 (with_fourth (using2 40_000 3_000 40_000 (a_pair 1 900 900)))) (on 2 (with_fourth (using2 50_000 30_000 45_000 (a_pair 4 5_000 20_000)))) 2 14_500
  -- of a task itself: its T, and the c and CT of its locks
  pub own : Stays (on 2 tasks_A) (on 2 (with_third (using1 60_000 6_000 30_000 (a_pair 2 300 500)))) 2 14_500

-- every kind is told by a pair
pub record EachTold : Type 0 where
  pub processors_told : Tells processors (on 2 tasks_A) (on 1 tasks_A) 2 14_500 22_000
  pub tasks_told : Tells tasks (on 1 tasks_A) (on 1 (with_fourth (using1 40_000 3_000 40_000 (a_pair 1 100 100)))) 1 14_500 14_700
  pub run_told : Tells run (on 2 tasks_A) (on 2 (with_second (using1 20_000 5_000 15_000 unused_pair))) 1 4_000 5_000
  pub deadline_told : TellsMiss deadline (on 2 tasks_A) (on 2 (with_third (using1 30_000 6_000 14_499 (a_pair 2 750 1_500)))) 2 14_500
  pub requests_told : Tells requests (on 2 tasks_A) (on 2 (with_first (using1 10_000 2_500 10_000 (a_pair 2 500 500)))) 0 3_250 4_000
  pub period_above_told : Tells period_above (on 1 tasks_A) (on 1 (with_second (using1 15_000 4_000 15_000 unused_pair))) 2 22_000 28_000
  pub deadline_above_told : Tells deadline_above (on 2 tasks_A) (on 2 (with_first (using1 10_000 2_500 9_000 (a_pair 1 500 500)))) 2 14_500 14_000
  pub shared_told : Tells shared (on 2 (holding1 2_500 500)) (on 2 (holding1 3_000 1_000)) 2 14_500 16_000
  pub other_told : Tells other (on 1 (holding1 2_500 500)) (on 1 (holding1 2_600 600)) 1 14_500 14_800
  pub free_told : Tells free (on 2 tasks_A) (on 2 (with_second (using1 20_000 5_000 15_000 unused_pair))) 2 14_500 15_500
  pub period_below_told : Tells period_below (on 1 (with_third (using1 30_000 6_000 10_000 (a_pair 2 750 1_500)))) (on 1 (with_third (using1 15_000 6_000 10_000 (a_pair 2 750 1_500)))) 1 10_500 14_500
  pub deadline_below_told : Tells deadline_below (on 1 (with_third (using1 30_000 6_000 20_000 (a_pair 2 750 1_500)))) (on 1 tasks_A) 1 10_500 14_500
  pub high_told : Tells high (on 1 (with_third (using1 30_000 6_000 30_000 (a_pair 2 750 1_000)))) (on 1 tasks_A) 1 11_500 14_500
  pub longest_told : Tells longest (on 2 tasks_A) (on 2 (with_third (using1 30_000 6_000 30_000 (a_pair 2 1_000 1_500)))) 0 3_250 3_500

-- case A on one processor, where task 3 does not use the lock of task 1
abbrev pub unlocked : Table
unlocked = on 1 (with_third (using1 30_000 6_000 30_000 unused_pair))

-- case A on one processor, where task 3 uses lock 2, and task 1 uses lock 1; and where task 1 uses lock 2 in its place
abbrev pub lock_apart : Table
lock_apart = on 1 (with_third (using2 30_000 6_000 30_000 (a_pair 2 750 1_500)))

abbrev pub lock_shared : Table
lock_shared = on 1 (using2 10_000 2_500 10_000 (a_pair 1 500 500) ∷ two ∷ using2 30_000 6_000 30_000 (a_pair 2 750 1_500) ∷ [])

pub record EachRead : Type 0 where
  pub unread : Unread
  pub told : EachTold
  -- task 2 runs longer, all else the same, and task 1 has its bound
  pub run_below : Moves (λ v w. Above (level 0) (level 1) × OnlyRun (level 1) v w) (on 2 tasks_A) (on 2 (with_second (using1 20_000 5_000 15_000 unused_pair))) 0 3_250 3_250
  -- task 3 begins to use the lock of task 1, and task 2 to read task 3
  pub begins : Moves (λ v w. SameWhereRead v w (level 1)) unlocked (on 1 tasks_A) 1 9_000 14_500
  -- task 1 takes lock 2 in place of lock 1, so that the ceiling of lock 2 rises, and task 2 begins to read task 3
  pub lifts : Moves (λ v w. SameByFirst v w (level 1)) lock_apart lock_shared 1 9_000 14_500
