-- A table as the analysis reads it, with each group as one resource, and the verdict on a task of it with its rounds.
use Rattle.std.specs.Prelude.{ℕ, pred}
use Rattle.table.specs.declared.Level.{Level}
use Rattle.table.specs.declared.Table.{Table}
use Rattle.table.specs.At.{task_at, pair_at}
use Rattle.theory.specs.declared.Counted.{Counted}
use Rattle.theory.specs.View.{View}
use Rattle.theory.specs.Demand.{demand_of}
use Rattle.theory.specs.Rounds.{counted_from}
use Rattle.theory.specs.Merge.{merged}

-- by its pairs as they stand
abbrev pub view_of : Table → View
view_of t =
    record {
      cpus = t.cpus;
      n = t.n;
      T = λ i. (task_at t (pred i.0)).period;
      C = λ i. (task_at t (pred i.0)).run;
      D = λ i. (task_at t (pred i.0)).deadline;
      N = λ i k. (pair_at t (pred i.0) (pred k.0)).requests;
      c = λ i k. (pair_at t (pred i.0) (pred k.0)).longest;
      CT = λ i k. (pair_at t (pred i.0) (pred k.0)).total;
    }

-- by the merged ones (request 9/12): this is what the demand, the rounds and the wait read
abbrev pub merged_view : Table → View
merged_view t = view_of (merged t)

-- the verdict on task i of a view and its rounds, so many of them allowed: the rounds start at C
unfoldable pub counted_by : View → ℕ → Level → Counted
counted_by v allowance i = counted_from (demand_of v i) (v.D i) allowance (v.C i)

-- and of a table
abbrev pub counted_in : Table → ℕ → Level → Counted
counted_in t allowance i = counted_by (merged_view t) allowance i
