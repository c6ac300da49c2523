-- What the passes over the tasks keep, and the share that they make of each task.
use Rattle.std.specs.Prelude.{ℕ, ◌-◌, ◌*◌, ◌≤◌, ◌<◌, max, min, ◌≡◌, Bool, false, List, ltb, get_or, length}
use Rattle.basics.specs.Choice.{pick, only}
use Rattle.basics.specs.Over.{sum_to, max_to}
use Rattle.table.specs.declared.Level.{Level}
use Rattle.table.specs.declared.Task.{Task}
use Rattle.table.specs.declared.Table.{Table}
use Rattle.table.specs.Limits.{max_tasks, max_resources}
use Rattle.table.specs.At.{task_at, pair_of, total_of}
use Rattle.theory.specs.View.{level, resource, is_above}
use Rattle.shares.specs.declared.Totals.{Totals}
use Rattle.rounds.specs.declared.Share.{Share}
use Rattle.theory.specs.Tables.{view_of}
use Rattle.rounds.specs.Shares.{share_in}
use Rattle.rounds.specs.Outcome.{max_wait}

-- what is kept for the resource at slot k
abbrev pub mark_at : List Bool → ℕ → Bool
mark_at m k = get_or m k false

abbrev pub ceiling_at : List Level → ℕ → Level
ceiling_at c k = get_or c k (record { 0 = 0 })

abbrev pub peak_at : List ℕ → ℕ → ℕ
peak_at m k = get_or m k 0

-- ---- the marks and the ceilings

-- the resources that a task uses
pub record UsedBy (a : Task) (r : List Bool) : Type 0 where
  pub each : (k : ℕ) → k < max_resources → mark_at r k ≡ ltb 0 (pair_of a k).requests

-- a ceiling, once a task is known that asks for the resource so often: the task's level, if it uses it and is above what was known
abbrev pub ceiling_with : Level → ℕ → Level → Level
ceiling_with known requests task = pick (ltb 0 requests) (pick (is_above task known) task known) known

pub record CeilingsWith (known : List Level) (b : Task) (task : Level) (r : List Level) : Type 0 where
  pub each : (k : ℕ) → k < max_resources → ceiling_at r k ≡ ceiling_with (ceiling_at known k) (pair_of b k).requests task

-- the resources whose ceiling is strictly above i
pub record HighIn (known : List Level) (i : Level) (r : List Bool) : Type 0 where
  pub each : (k : ℕ) → k < max_resources → mark_at r k ≡ is_above (ceiling_at known k) i

-- ---- the longest requests, and what waiting for them costs

pub record RaisedBy (m : List ℕ) (b : Task) (r : List ℕ) : Type 0 where
  pub each : (k : ℕ) → k < max_resources → peak_at r k ≡ max (peak_at m k) (pair_of b k).longest

abbrev pub wait_at : List ℕ → Task → ℕ → ℕ
wait_at m a k = (pair_of a k).requests * peak_at m k

pub record WaitIs (m : List ℕ) (a : Task) (r : ℕ) : Type 0 where
  pub is : r ≡ min max_wait (sum_to max_resources (wait_at m a))
  pub most : r ≤ max_wait

-- ---- a task's CT, and its share

-- its CT of a resource where that is marked, and the sums
abbrev pub marked_of : List Bool → Task → ℕ → ℕ
marked_of m b k = only (mark_at m k) (total_of b k)

abbrev pub marked_sum : List Bool → Task → ℕ
marked_sum m b = sum_to max_resources (marked_of m b)

abbrev pub total_sum : Task → ℕ
total_sum b = sum_to max_resources (total_of b)

pub record TotalsAre (m : List Bool) (b : Task) (r : Totals) : Type 0 where
  pub marked : r.marked ≡ marked_sum m b
  pub all : r.all ≡ total_sum b
  pub order : r.marked ≤ r.all

-- of a task above: what is marked, what is not, and what is no CT; the short form divides nothing
pub record UpperIs (m : List Bool) (b : Task) (short : Bool) (e : Share) : Type 0 where
  pub period : e.period ≡ b.period
  pub deadline : e.deadline ≡ b.deadline
  pub whole : e.whole ≡ marked_sum m b
  pub one : e.one ≡ pick short 0 (total_sum b - marked_sum m b)
  pub two : e.two ≡ pick short 0 (b.run - total_sum b)

-- of a task below: what is marked. (Of task i itself nothing counts: its share is that of a task below, in the short form)
pub record LowerIs (m : List Bool) (b : Task) (short : Bool) (e : Share) : Type 0 where
  pub period : e.period ≡ b.period
  pub deadline : e.deadline ≡ b.deadline
  pub whole : e.whole ≡ 0
  pub one : e.one ≡ pick short 0 (marked_sum m b)
  pub two : e.two ≡ 0

-- ---- the two passes of the analysis of task i

-- the ceilings kept after the first l tasks: above i where one of these uses the resource
abbrev pub CeilingsTo : Table → ℕ → ℕ → List Level → Type 0
CeilingsTo t i l c =
    (k : ℕ) → k < max_resources → is_above (ceiling_at c k) (level i) ≡ ltb 0 (sum_to l (λ j. (view_of t).N (level j) (resource k)))

-- the longest requests kept after the first j tasks: those of the tasks below i among these
abbrev pub PeaksTo : Table → ℕ → ℕ → List ℕ → Type 0
PeaksTo t i j m =
    (k : ℕ) → k < max_resources → peak_at m k ≡ max_to j (λ l. only (is_above (level i) (level l)) ((view_of t).c (level l) (resource k)))

-- the tasks above i are passed: their shares stand in front of the row, which is as it was from i on, and the ceilings are those that they bring
pub record SharesAbove (t : Table) (i : ℕ) (m : List Bool) (short : Bool) (old new : List Share) (known : List Level) : Type 0 where
  pub each : (l : ℕ) → l < i → UpperIs m (task_at t l) short (share_in new l)
  pub rest : (l : ℕ) → i ≤ l → share_in new l ≡ share_in old l
  pub long : length new ≡ max_tasks
  pub ceilings : CeilingsTo t i i known

-- those below i are passed too: their shares stand in the row, which is as it was down to i and past the nth, and the longest requests are theirs
pub record SharesBelow (t : Table) (i : ℕ) (m : List Bool) (short : Bool) (old new : List Share) (longest : List ℕ) : Type 0 where
  pub kept : (l : ℕ) → l ≤ i → share_in new l ≡ share_in old l
  pub each : (l : ℕ) → i < l → l < t.n → LowerIs m (task_at t l) short (share_in new l)
  pub rest : (l : ℕ) → t.n ≤ l → share_in new l ≡ share_in old l
  pub long : length new ≡ max_tasks
  pub peaks : PeaksTo t i t.n longest
