-- Computed: the paper's point on the quotient, a demand that tells the terms from the easy slips, its rounds under an allowance, and merged pairs. With only case A, O or L dropped, a ceiling equal to i
-- taken into L, or a quotient rounded down would not be seen.
use Rattle.std.specs.Prelude.{ℕ, pred, ◌≡◌, List, [], ◌∷◌, get_or, replicate}
use Rattle.table.specs.declared.Level.{Level}
use Rattle.table.specs.declared.Resource.{Resource}
use Rattle.table.specs.declared.Pair.{Pair}
use Rattle.table.specs.declared.Task.{Task}
use Rattle.table.specs.Empty.{unused_pair}
use Rattle.table.specs.At.{a_pair, a_task}
use Rattle.theory.specs.declared.Verdict.TheVariants.{Meets, Misses, Open}
use Rattle.theory.specs.declared.Counted.{Counted}
use Rattle.theory.specs.Work.{workload, quotient}
use Rattle.theory.specs.View.{View, level}
use Rattle.theory.specs.Demand.{DB, S, O, F, L, demand_of}
use Rattle.theory.specs.Rounds.{counted_from}
use Rattle.theory.specs.Merge.{merged_pair}

-- Two processors and four tasks, T and D 100 each. Locks: 1 of tasks 1 and 4; 2 of tasks 3 and 4, so that its ceiling is 3; 3 of tasks 2 and 3
abbrev rows : List (List Pair)
rows =
    (a_pair 1 2 2 ∷ [])
    ∷ (unused_pair ∷ unused_pair ∷ a_pair 1 1 1 ∷ [])
    ∷ (unused_pair ∷ a_pair 2 4 5 ∷ a_pair 1 1 1 ∷ [])
    ∷ (a_pair 1 3 3 ∷ a_pair 1 6 6 ∷ [])
    ∷ []

abbrev pairs : Level → Resource → Pair
pairs l k = get_or (get_or rows (pred l.0) []) (pred k.0) unused_pair

unfoldable pub four : View
four =
    record {
      cpus = 2;
      n = 4;
      T = λ l. 100;
      C = λ l. get_or (10 ∷ 10 ∷ 20 ∷ 30 ∷ []) (pred l.0) 0;
      D = λ l. 100;
      N = λ l k. (pairs l k).requests;
      c = λ l k. (pairs l k).longest;
      CT = λ l k. (pairs l k).total;
    }

-- three locks, of which the first and the third are of group 2, and what a task asks of them; the second has no group
abbrev second : List ℕ
second = 2 ∷ 0 ∷ 2 ∷ []

abbrev holder : Task
holder = a_task 10_000 200 10_000 (a_pair 2 30 50 ∷ a_pair 1 7 7 ∷ a_pair 3 20 45 ∷ [])

-- the rounds of task 3, so many allowed, from its C on
abbrev third : ℕ → ℕ → Counted
third D allowance = counted_from (demand_of four (level 2)) D allowance (four.C (level 2))

pub record CasesHold : Type 0 where
  -- "m 3, O, F and L each 1: the quotient is 1, not 3"; with m 2 it is 2, not 1
  pub a_third : quotient 1 1 1 3 ≡ 1
  pub a_half : quotient 1 1 1 2 ≡ 2
  -- of task 3 at t 17: twice the 6 of task 4's lock 2; twice task 2's lock 3; twice task 1's lock 1; of the units without a lock twice task 1's 8, and
  -- 9 and 8 of task 2's 9; twice task 4's lock 1, and not its lock 2
  pub waits : DB four (level 2) ≡ 12
  pub shared : S workload four (level 2) 17 ≡ 2
  pub others : O workload four (level 2) 17 ≡ 4
  pub free : F workload four (level 2) 17 ≡ 33
  pub lower : L workload four (level 2) 17 ≡ 6
  -- C + DB + S and a half of 43
  pub long : demand_of four (level 2) 17 ≡ 56
  -- task 2 is the m-th: C + DB + S
  pub short : demand_of four (level 1) 17 ≡ 11
  -- at t 3, of the 8 and 9 units without a lock 3 each: no workload is above t, and their sum may be
  pub capped : F workload four (level 2) 3 ≡ 6
  -- request 6/12: from its C, 20, the length is replaced by 56, which repeats: two rounds. Just allowed, or with more to spare, it meets; with one it is open,
  -- and with none nothing is worked out. With a deadline of 55 the first round passes it
  pub repeats : third 100 2 ≡ record { verdict = Meets 56; rounds = 2 }
  pub to_spare : third 56 9 ≡ record { verdict = Meets 56; rounds = 2 }
  pub runs_out : third 100 1 ≡ record { verdict = Open; rounds = 1 }
  pub passes : third 55 1 ≡ record { verdict = Misses; rounds = 1 }
  pub none_allowed : third 100 0 ≡ record { verdict = Open; rounds = 0 }
  -- request 9/12: N and CT are summed, c is the largest, at the group's first; at its other is nothing; lock 2 is by itself, though the group has its number
  pub together : merged_pair second holder 0 ≡ a_pair 5 30 95
  pub by_itself : merged_pair second holder 1 ≡ a_pair 1 7 7
  pub at_the_other : merged_pair second holder 2 ≡ unused_pair
  -- "the merged N may reach 16,000"
  pub all_sixteen : merged_pair (replicate 16 16) (a_task 10_000_000 10_000_000 10_000_000 (replicate 16 (a_pair 1_000 1_000 625_000))) 0 ≡ a_pair 16_000 1_000 10_000_000
