-- Computed: the point of the request, and waits that tell what is counted from what is not.
use Rattle.std.specs.Prelude.{ℕ, pred, ◌≡◌, List, [], ◌∷◌, length, get_or}
use Rattle.table.specs.declared.Level.{Level}
use Rattle.table.specs.declared.Resource.{Resource}
use Rattle.table.specs.declared.Pair.{Pair}
use Rattle.table.specs.Empty.{unused_pair}
use Rattle.table.specs.At.{a_pair}
use Rattle.theory.specs.View.{View, level}
use Rattle.waits.specs.Wait.{wait_of}

-- so many processors, and of each task its pairs; its times are not read
unfoldable pub view_with : ℕ → List (List Pair) → View
view_with cpus rows =
    let pairs : Level → Resource → Pair = λ l k. get_or (get_or rows (pred l.0) []) (pred k.0) unused_pair in
    record {
      cpus = cpus;
      n = length rows;
      T = λ l. 0;
      C = λ l. 0;
      D = λ l. 0;
      N = λ l k. (pairs l k).requests;
      c = λ l k. (pairs l k).longest;
      CT = λ l k. (pairs l k).total;
    }

-- task 1 has two requests for lock 1; below it are 300 and 700, and 400 for the same lock as the 300
abbrev three : List (List Pair)
three = (a_pair 2 50 100 ∷ []) ∷ (unused_pair ∷ a_pair 1 300 300 ∷ a_pair 1 700 700 ∷ []) ∷ (unused_pair ∷ a_pair 1 400 400 ∷ []) ∷ []

-- task 1 has no locks, and task 2 three requests for lock 1; below are 700 and 300, and 700 once more
abbrev equals : List (List Pair)
equals = [] ∷ (a_pair 3 50 150 ∷ []) ∷ (unused_pair ∷ a_pair 1 700 700 ∷ a_pair 1 300 300 ∷ []) ∷ (unused_pair ∷ a_pair 1 700 700 ∷ []) ∷ []

-- task 2 has three requests for lock 1 and two for lock 2, with a task above it, and below it 600 and 300 for the same locks, 10 for another, and a pair that is not in use
abbrev mixed : List (List Pair)
mixed =
    (unused_pair ∷ unused_pair ∷ a_pair 1 5_000 5_000 ∷ [])
    ∷ (a_pair 3 900 900 ∷ a_pair 2 800 800 ∷ [])
    ∷ (a_pair 1 600 600 ∷ a_pair 1 300 300 ∷ [])
    ∷ (unused_pair ∷ unused_pair ∷ unused_pair ∷ a_pair 1 10 10 ∷ a_pair 0 9_000 0 ∷ [])
    ∷ []

pub record CasesHold : Type 0 where
  -- "With A 2, N 2, one resource in use and lower values 300, 700 and 400, that is 2,200"
  pub point : wait_of (view_with 1 three) 2 (level 0) ≡ 2_200
  -- "all, if fewer", "each pair counted": 400 and 300 are for one lock
  pub all : wait_of (view_with 1 three) 9 (level 0) ≡ 2_800
  pub each_pair : wait_of (view_with 1 three) 3 (level 0) ≡ 2_800
  -- of two that are equal one, where A is 1, and both, where it is 2
  pub one_of_equals : wait_of (view_with 1 equals) 1 (level 1) ≡ 2_100
  pub both_equals : wait_of (view_with 1 equals) 2 (level 1) ≡ 4_200
  -- the lowest task waits for none, and so does one without locks
  pub lowest : wait_of (view_with 1 equals) 2 (level 3) ≡ 0
  pub without_locks : wait_of (view_with 1 equals) 2 (level 0) ≡ 0
  -- three times 300 and twice 600: not its own 900 and 800, not the 5,000 above it, not what is for the lock itself
  pub over_two : wait_of (view_with 1 mixed) 1 (level 1) ≡ 2_100
  -- three times 310 and twice 610
  pub over_all : wait_of (view_with 1 mixed) 9 (level 1) ≡ 2_150
  -- it is the same where i is at most m
  pub short : wait_of (view_with 2 mixed) 1 (level 1) ≡ 2_100
