-- `shares::shares_above` meets its contract. The invariant: the first l shares are there, and the ceilings are of these l tasks. Assumes nothing.
use Rattle.std.proofs.Common.{◌≡◌, ℕ, ◌<◌, ◌≤◌, length}
use Rattle.table.specs.Limits.{max_tasks}
use Rattle.table.specs.At.{task_at}
use Rattle.rounds.specs.Shares.{share_in}
use Rattle.shares.specs.Pass.{UpperIs, CeilingsTo}
use Rattle.shares.proofs.shares_above.Given as goal

abbrev pub invariant-loop-l : goal.invariant-loop-l
invariant-loop-l l =
    record {
      each : (j : ℕ) → j < l.l → UpperIs l.mine (task_at l.t j) l.short (share_in l.row j);
      rest : (j : ℕ) → l.l ≤ j → share_in l.row j ≡ share_in l.initial.row j;
      long : length l.row ≡ max_tasks;
      ceilings : CeilingsTo l.t l.i l.l l.ceilings;
    }
