-- What is kept of the tasks gone through, from the lowest up: their requests as numbers, in falling order, as many as may be needed.
use Rattle.std.specs.Prelude.{ℕ, ◌+◌, ◌-◌, ◌*◌, ◌/◌, ◌%◌, ◌^◌, ◌≤◌, ◌<◌, ◌≡◌, List, [], ◌∷◌, eqb, leb, ltb, length, take}
use Rattle.std.specs.Coded.{Coded-set, coded_ℕ, ×_prop, Unit-prop, le_prop}
use Rattle.basics.specs.Choice.{pick, only}
use Rattle.basics.specs.Over.{sum_to, join_to, row_to}
use Rattle.basics.specs.Largest.{insert_into, sum_of, EachAtMost, Descends}
use Rattle.table.specs.declared.Task.{Task}
use Rattle.table.specs.declared.Table.{Table}
use Rattle.table.specs.Limits.{max_tasks, max_resources, max_time, max_alpha}
use Rattle.table.specs.At.{task_at, alpha_at, pair_of}
use Rattle.theory.specs.View.{level}
use Rattle.theory.specs.Groups.{max_requests}
use Rattle.theory.specs.Tables.{view_of}
use Rattle.waits.specs.Wait.{wait_of}

-- how many are kept: as many as are summed, and one for each lower task
abbrev pub max_kept : ℕ
max_kept = max_alpha + max_tasks - 1

-- ---- a request as a number: the longer it is the larger, and behind that its resource's slot

abbrev pub key_slots : ℕ
key_slots = 16

abbrev pub key_of : ℕ → ℕ → ℕ
key_of c slot = c * key_slots + slot

-- of a task, for each pair in use
abbrev pub key_at : Task → ℕ → List ℕ
key_at x j = pick (ltb 0 (pair_of x j).requests) (key_of (pair_of x j).longest j ∷ []) []

abbrev pub keys_of : Task → List ℕ
keys_of x = join_to max_resources (key_at x)

-- of the tasks from slot i on
abbrev pub keys_from : Table → ℕ → List ℕ
keys_from t i = join_to t.n (λ l. pick (leb i l) (keys_of (task_at t l)) [])

-- what is asked of a task, so that its numbers and what it waits fit
pub record InLimits (x : Task) : Type 0 where
  pub requests : (k : ℕ) → k < max_resources → (pair_of x k).requests ≤ max_requests
  pub longest : (k : ℕ) → k < max_resources → (pair_of x k).longest ≤ max_time

-- ---- numbers that are kept

-- each put in its place, the last first
abbrev pub insert_each : List ℕ → List ℕ → List ℕ
insert_each [] S = S
insert_each (x ∷ xs) S = insert_into x (insert_each xs S)

-- a row with room for all that are kept, the first n of which are
pub record KeptRow (kept : List ℕ) (n : ℕ) : Type 0 where
  pub long : length kept ≡ max_kept
  pub few : n ≤ max_kept
  pub falls : Descends (take n kept)

-- there is one proof of it at most, so that a struct may keep it
at_most_prop : (b : ℕ) (S : List ℕ) → IsProp (EachAtMost b S)
at_most_prop b [] = Unit-prop
at_most_prop b (x ∷ S) = ×_prop le_prop (at_most_prop b S)

descends_prop : (S : List ℕ) → IsProp (Descends S)
descends_prop [] = Unit-prop
descends_prop (x ∷ S) = ×_prop (at_most_prop x S) (descends_prop S)

pub row_prop : (kept : List ℕ) (n : ℕ) → IsProp (KeptRow kept n)
row_prop kept n a b i =
    record {
      long = Coded-set coded_ℕ (length kept) max_kept a.long b.long i;
      few = le_prop a.few b.few i;
      falls = descends_prop (take n kept) a.falls b.falls i;
    }

-- once xs are put in their places too, the first r of the row are kept, and the smallest of too many have gone
pub record KeptWith (xs entry : List ℕ) (n r : ℕ) (exit : List ℕ) : Type 0 where
  pub long : length exit ≡ max_kept
  pub few : r ≤ max_kept
  pub first : take r exit ≡ take max_kept (insert_each xs (take n entry))

-- ---- what a task waits, by the numbers S that are kept

-- the c of those for another resource than the one at slot k
abbrev pub others_kept : ℕ → List ℕ → List ℕ
others_kept k [] = []
others_kept k (x ∷ S) = pick (eqb (x % key_slots) k) (others_kept k S) (x / key_slots ∷ others_kept k S)

abbrev pub sum_others : List ℕ → ℕ → ℕ → ℕ
sum_others S A k = sum_of (take A (others_kept k S))

-- no more than this: a number has 32 bits, 4 of them for the slot
abbrev pub max_others : ℕ
max_others = max_kept * 2 ^ 28

-- for the resource at slot k, of which it has N requests; and for all that it uses
abbrev pub wait_for : List ℕ → ℕ → ℕ → ℕ → ℕ
wait_for S A N k = only (ltb 0 N) (N * sum_others S A k)

abbrev pub wait_on : List ℕ → ℕ → Task → ℕ → ℕ
wait_on S A x k = wait_for S A (pair_of x k).requests k

abbrev pub wait_with : List ℕ → ℕ → Task → ℕ
wait_with S A x = sum_to max_resources (wait_on S A x)

-- ---- the waits of a table by its pairs as they stand: of the task at slot i, and of all, 0 past them

abbrev pub slot_wait_by : Table → ℕ → ℕ
slot_wait_by m i = pick (ltb i m.n) (wait_of (view_of m) (alpha_at m i) (level i)) 0

abbrev pub waits_by : Table → List ℕ
waits_by m = row_to max_tasks (slot_wait_by m)
