-- The shares that count, packed in front of two rows, and what a round works out of them.
use Rattle.std.specs.Prelude.{ℕ, ◌+◌, ◌-◌, ◌*◌, ◌≤◌, min, ◌≡◌, List, take}
use Rattle.std.specs.List.{sum_by}
use Rattle.basics.specs.Over.{sum_to}
use Rattle.table.specs.Limits.{max_tasks, max_time}
use Rattle.theory.specs.Work.{jobs, workload}
use Rattle.rounds.specs.declared.Part.{Part}
use Rattle.rounds.specs.declared.Parts.{Parts}
use Rattle.rounds.specs.declared.Share.{Share}
use Rattle.rounds.specs.declared.Shares.{Shares}
use Rattle.rounds.specs.Shares.{share_at}
use Rattle.rounds.specs.Part.{max_span}

-- the most that a sum of a round can come to: at most two workloads of each task, each at most t
abbrev pub max_sum : ℕ
max_sum = 2 * max_tasks * max_time

-- the workload over t ≥ 1 of a part: by document 01, and at most t
abbrev pub part_uncapped : Part → ℕ → ℕ
part_uncapped e t = jobs e.period e.units (t + e.off)

abbrev pub part_load : Part → ℕ → ℕ
part_load e t = min t (part_uncapped e t)

pub record PartIs (T D x : ℕ) (e : Part) : Type 0 where
  pub period : e.period ≡ T
  pub units : e.units ≡ x
  pub off : e.off ≡ D - x

pub record UncappedIs (e : Part) (t r : ℕ) : Type 0 where
  pub is : r ≡ part_uncapped e t
  pub fits : r ≤ max_span

-- ---- a row

-- the workloads over t of the first n parts
abbrev pub loads : List Part → ℕ → ℕ → ℕ
loads xs n t = sum_by (λ e. part_load e t) (take n xs)

pub record LoadIs {N : ℕ} (r : Parts N) (t x : ℕ) : Type 0 where
  pub is : x ≡ loads r.of r.n t
  pub fits : x ≤ max_sum

-- x units of a share are in the row too, unless they are none
pub record PushIs {N : ℕ} (old : Parts N) (e : Share) (x : ℕ) (new : Parts N) : Type 0 where
  pub one : new.n ≤ old.n + 1
  pub are : (t : ℕ) → 1 ≤ t → loads new.of new.n t ≡ loads old.of old.n t + workload e.period e.deadline t x

-- the row comes to what the first k shares come to, each to what f says of it
pub record PartsAre {N : ℕ} (s : Shares) (k : ℕ) (f : Share → ℕ → ℕ) (r : Parts N) : Type 0 where
  pub are : (t : ℕ) → 1 ≤ t → loads r.of r.n t ≡ sum_to k (λ l. f (share_at s l) t)
