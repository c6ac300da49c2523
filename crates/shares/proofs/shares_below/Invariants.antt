-- `shares::shares_below` meets its contract. The invariant: the shares down to i are as they were, those of the tasks from i to j are
-- there, and the longest requests are of these. Assumes nothing.
use Rattle.std.proofs.Common.{◌≡◌, ℕ, ◌<◌, ◌≤◌, length}
use Rattle.table.specs.Limits.{max_tasks}
use Rattle.table.specs.At.{task_at}
use Rattle.rounds.specs.Shares.{share_in}
use Rattle.shares.specs.Pass.{LowerIs, PeaksTo}
use Rattle.shares.proofs.shares_below.Given as goal

abbrev pub invariant-loop-j : goal.invariant-loop-j
invariant-loop-j l =
    record {
      kept : (q : ℕ) → q ≤ l.i → share_in l.row q ≡ share_in l.initial.row q;
      each : (q : ℕ) → l.i < q → q < l.j → LowerIs l.above (task_at l.t q) l.short (share_in l.row q);
      rest : (q : ℕ) → l.j ≤ q → share_in l.row q ≡ share_in l.initial.row q;
      long : length l.row ≡ max_tasks;
      peaks : PeaksTo l.t l.i l.j l.peaks;
    }
