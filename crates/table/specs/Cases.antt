-- Tables handed over directly, and what the check says of each: one list, one statement over it, computed.
use Rattle.std.specs.Prelude.{ℕ, ◌≡◌, List, [], ◌∷◌, ◌++◌, map, replicate}
use Rattle.table.specs.declared.Pair.{Pair}
use Rattle.table.specs.declared.Task.{Task}
use Rattle.table.specs.declared.Table.{Table}
use Rattle.table.specs.declared.Fault.TheVariants.{OutOfRange, BadTimes, BadTotals, TooManyTasks, NoTask, AlphaMissing, AlphaRises}
use Rattle.table.specs.Faults.{Checked}
use Rattle.std.specs.Prelude.{Ok}
use Rattle.table.specs.Empty.{unused_pair}
use Rattle.table.specs.At.{a_pair, a_task, with_alpha, a_table, with_groups}
use Rattle.table.specs.Faults.{at}
use Rattle.table.specs.Rules.{table_fault}

pub record Case : Type 0 where
  pub table : Table
  pub answer : Checked

-- m, n, the tasks, and the answer
abbrev case : ℕ → ℕ → List Task → Checked → Case
case m n tasks answer = record { table = a_table m n tasks; answer = answer }

-- the same with these groups
abbrev grouped : List ℕ → Case → Case
grouped groups c = record { table = with_groups groups c.table; answer = c.answer }

-- a task that nothing is said against
abbrev good : Task
good = a_task 10_000 2_500 10_000 (a_pair 1 500 500 ∷ [])

-- a task with these pairs
abbrev holding : List Pair → Task
holding pairs = a_task 10_000 2_500 10_000 pairs

-- the same with an alpha
abbrev tuned : ℕ → Task
tuned A = with_alpha A good

-- one task, on two processors
abbrev one : Task → Checked → Case
one x answer = case 2 1 (x ∷ []) answer

-- this pair and fourteen that are not in use, then that one
abbrev ends : Pair → Pair → List Pair
ends p q = (p ∷ replicate 14 unused_pair) ++ (q ∷ [])

abbrev sixteenth : Pair → List Pair
sixteenth q = ends unused_pair q

-- the largest numbers that the fields hold
abbrev largest : Task
largest = a_task 4_294_967_295 4_294_967_295 4_294_967_295 (replicate 16 (a_pair 4_294_967_295 4_294_967_295 4_294_967_295))

unfoldable pub cases : List Case
cases =
    -- accepted: case A, the smallest table, each limit itself, 16 totals that just fit
    case 2 3 (good ∷ a_task 20_000 4_000 15_000 [] ∷ a_task 30_000 6_000 30_000 (a_pair 2 750 1_500 ∷ []) ∷ []) (Ok tt)
    ∷ case 1 1 (a_task 1 1 1 (a_pair 1 1 1 ∷ []) ∷ []) (Ok tt)
    ∷ case 64 32 (replicate 32 (a_task 10_000_000 10_000_000 10_000_000 (sixteenth (a_pair 1_000 10_000_000 10_000_000)))) (Ok tt)
    ∷ one (a_task 10_000_000 10_000_000 10_000_000 (replicate 16 (a_pair 1 625_000 625_000))) (Ok tt)
    -- 9, which comes before 4
    ∷ case 2 0 (good ∷ []) (at NoTask 0)
    ∷ case 65 0 [] (at NoTask 0)
    -- 8, which comes before 4
    ∷ case 2 33 (replicate 33 good) (at TooManyTasks 0)
    ∷ case 0 4_294_967_295 [] (at TooManyTasks 0)
    -- 4 of m, which comes before the tasks
    ∷ case 0 1 (good ∷ []) (at OutOfRange 0)
    ∷ case 65 1 (largest ∷ []) (at OutOfRange 0)
    -- 4 of T, C and D; the place is the task's number
    ∷ case 2 1 [] (at OutOfRange 1)
    ∷ case 2 2 (good ∷ a_task 10_000_001 1 1 [] ∷ []) (at OutOfRange 2)
    ∷ case 2 2 (good ∷ a_task 5 0 5 [] ∷ []) (at OutOfRange 2)
    ∷ case 2 32 (replicate 31 good ++ (a_task 5 5 0 [] ∷ [])) (at OutOfRange 32)
    ∷ one largest (at OutOfRange 1)
    -- 5: C above D, D above T
    ∷ one (a_task 10 9 8 []) (at BadTimes 1)
    ∷ case 2 2 (good ∷ a_task 10 9 11 [] ∷ []) (at BadTimes 2)
    ∷ one (a_task 7 9 8 []) (at BadTimes 1)
    -- 4 comes before 5
    ∷ one (a_task 10 10_000_001 9 []) (at OutOfRange 1)
    -- 4: an unused pair with a c or a CT
    ∷ one (holding (a_pair 0 1 0 ∷ [])) (at OutOfRange 1)
    ∷ one (holding (sixteenth (a_pair 0 0 1))) (at OutOfRange 1)
    -- 4 of N, c and CT
    ∷ one (holding (a_pair 1_001 2 2 ∷ [])) (at OutOfRange 1)
    ∷ one (holding (a_pair 1 0 1 ∷ [])) (at OutOfRange 1)
    ∷ one (holding (a_pair 1 1 0 ∷ [])) (at OutOfRange 1)
    ∷ one (holding (a_pair 1 10_000_001 1 ∷ [])) (at OutOfRange 1)
    ∷ one (holding (a_pair 1 1 10_000_001 ∷ [])) (at OutOfRange 1)
    -- 7: c above CT, CT above N × c, a sum above C
    ∷ one (holding (a_pair 3 100 99 ∷ [])) (at BadTotals 1)
    ∷ one (holding (a_pair 3 100 301 ∷ [])) (at BadTotals 1)
    ∷ one (holding (a_pair 3 100 300 ∷ [])) (Ok tt)
    ∷ one (holding (a_pair 1 2_501 2_501 ∷ [])) (at BadTotals 1)
    ∷ one (holding (a_pair 1 2_500 2_500 ∷ [])) (Ok tt)
    ∷ case 2 2 (good ∷ holding (ends (a_pair 1 2_499 2_499) (a_pair 1 2 2)) ∷ []) (at BadTotals 2)
    ∷ case 2 2 (good ∷ holding (ends (a_pair 1 2_499 2_499) (a_pair 1 1 1)) ∷ []) (Ok tt)
    -- 5 comes before the pairs; of one pair 4 before 7; of two pairs the first; of two tasks the first
    ∷ one (a_task 10 9 8 (a_pair 0 1 0 ∷ [])) (at BadTimes 1)
    ∷ one (holding (a_pair 1_001 9 1 ∷ [])) (at OutOfRange 1)
    ∷ one (holding (a_pair 3 100 99 ∷ a_pair 0 1 0 ∷ [])) (at BadTotals 1)
    ∷ case 2 2 (holding (sixteenth (a_pair 3 100 99)) ∷ a_task 0 1 1 [] ∷ []) (at BadTotals 1)
    -- slots past the nth are not looked at
    ∷ case 2 2 (good ∷ good ∷ largest ∷ []) (Ok tt)
    -- alpha for all, never rising, up to 64
    ∷ case 2 3 (tuned 64 ∷ tuned 64 ∷ tuned 1 ∷ []) (Ok tt)
    -- 17, whichever has it, and whatever it is; after 9, 8 and m, and before the tasks
    ∷ case 2 2 (good ∷ tuned 1 ∷ []) (at AlphaMissing 0)
    ∷ case 2 3 (tuned 2 ∷ good ∷ tuned 3 ∷ []) (at AlphaMissing 0)
    ∷ case 2 2 (with_alpha 200 largest ∷ good ∷ []) (at AlphaMissing 0)
    ∷ case 2 0 (tuned 1 ∷ good ∷ []) (at NoTask 0)
    ∷ case 2 33 (tuned 1 ∷ good ∷ []) (at TooManyTasks 0)
    ∷ case 0 2 (tuned 1 ∷ good ∷ []) (at OutOfRange 0)
    -- slots past the nth are not looked at for it
    ∷ case 2 2 (tuned 1 ∷ tuned 1 ∷ good ∷ []) (Ok tt)
    ∷ case 2 1 (good ∷ tuned 1 ∷ []) (Ok tt)
    -- alpha above 64 is 4 after T, C and D, and before 18 and 5; 18 before 5; the place is the task's number
    ∷ one (tuned 65) (at OutOfRange 1)
    ∷ case 2 2 (tuned 64 ∷ with_alpha 65 (a_task 10 9 8 []) ∷ []) (at OutOfRange 2)
    ∷ case 2 2 (tuned 2 ∷ with_alpha 3 (a_task 10 9 8 []) ∷ []) (at AlphaRises 2)
    ∷ case 2 2 (tuned 2 ∷ with_alpha 3 (a_task 10 0 8 []) ∷ []) (at OutOfRange 2)
    ∷ case 2 2 (tuned 3 ∷ with_alpha 3 (a_task 10 9 8 []) ∷ []) (at BadTimes 2)
    -- 18 is against the task before, not the first
    ∷ case 2 3 (tuned 9 ∷ tuned 2 ∷ tuned 3 ∷ []) (at AlphaRises 3)
    -- groups up to 16, of resources in use and not
    ∷ grouped (replicate 16 16) (case 2 2 (good ∷ good ∷ []) (Ok tt))
    ∷ grouped (1 ∷ 1 ∷ 0 ∷ 3 ∷ []) (one good (Ok tt))
    -- above 16: 4 with place 0, whichever resource has it, after 9, 8 and m, and before 17 and the tasks
    ∷ grouped (17 ∷ []) (one good (at OutOfRange 0))
    ∷ grouped (replicate 15 0 ++ (4_294_967_295 ∷ [])) (one good (at OutOfRange 0))
    ∷ grouped (17 ∷ []) (case 2 0 [] (at NoTask 0))
    ∷ grouped (17 ∷ []) (case 2 33 [] (at TooManyTasks 0))
    ∷ grouped (17 ∷ []) (case 2 2 (tuned 1 ∷ good ∷ []) (at OutOfRange 0))
    ∷ grouped (17 ∷ []) (one largest (at OutOfRange 0))
    -- 4 and 7 are of the pairs as typed: N of 1,000 each and CT that sum to C in one group
    ∷ grouped (replicate 16 1) (one (a_task 10_000_000 10_000_000 10_000_000 (replicate 16 (a_pair 1_000 1_000 625_000))) (Ok tt))
    ∷ grouped (1 ∷ 1 ∷ []) (one (holding (a_pair 1 100 100 ∷ a_pair 3 50 151 ∷ [])) (at BadTotals 1))
    ∷ []

abbrev pub CasesHold : Type 0
CasesHold = map (λ (c : Case). table_fault c.table) cases ≡ map (λ (c : Case). c.answer) cases
