-- Runs drawn as text, for those that are shown.
use Rattle.std.specs.Prelude.{ℕ, zero, suc, ◌+◌, ◌-◌, ◌*◌, ◌/◌, Bool, true, not, ◌||◌, List, [], length, get_or, eqb}
use Rattle.schedules.specs.Jobs.{JobSet}
use Rattle.schedules.specs.Schedule.{Schedule}

-- of each task, the highest first
pub record Picture : Type 0 where
  -- when its first job is released, and how far apart its jobs are
  pub first : List ℕ
  pub gaps : List ℕ
  -- the units of a job, all jobs of a task being alike: `-` uses no resource, a digit that one
  pub units : List (List ℕ)
  -- what it does at the instants of a cycle, cycle after cycle: `r` runs; `R` runs and holds a lock; `h` holds one and does not run, and `H` too, without having asked; `a` has asked for one and does not have it; `.` none of these
  pub doing : List (List ℕ)
  -- how many instants a cycle has
  pub cycle : ℕ

abbrev units_of : Picture → ℕ → List ℕ
units_of p l = get_or p.units l []

-- the lock of a unit: digits are written from 48 on
abbrev lock_at : List ℕ → ℕ → ℕ
lock_at units u = get_or units u 48 - 48

abbrev start_at : List ℕ → ℕ → Bool
start_at units zero = true
start_at units (suc u) = not (eqb (lock_at units (suc u)) (lock_at units u))

unfoldable pub jobs_of : Picture → JobSet
jobs_of p =
    record {
      release = λ l j. get_or p.first l 0 + j * get_or p.gaps l 0;
      cost = λ l j. length (units_of p l);
      lock = λ l j u. lock_at (units_of p l) u;
      starts = λ l j u. start_at (units_of p l) u;
    }

-- what stands at the instant s
abbrev drawn_at : Picture → ℕ → ℕ → ℕ
drawn_at p s l = get_or (get_or p.doing l []) (s - s / p.cycle * p.cycle) 46

-- `r` is 114, `R` 82, `h` 104, `H` 72, `a` 97
unfoldable pub run_of : Picture → Schedule
run_of p =
    record {
      runs = λ s l. let b = drawn_at p s l in eqb b 114 || eqb b 82;
      holds = λ s l. let b = drawn_at p s l in eqb b 82 || (eqb b 104 || eqb b 72);
      asked = λ s l. let b = drawn_at p s l in eqb b 82 || (eqb b 104 || eqb b 97);
    }
