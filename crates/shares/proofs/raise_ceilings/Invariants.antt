-- `shares::raise_ceilings` meets its contract. The invariant: the first k ceilings are raised, and the others are as they were. Assumes nothing.
use Rattle.std.proofs.Common.{◌≡◌, ℕ, ◌<◌, ◌≤◌, length}
use Rattle.table.specs.At.{pair_of}
use Rattle.shares.specs.Pass.{ceiling_at, ceiling_with}
use Rattle.shares.proofs.raise_ceilings.Given as goal

abbrev pub invariant-loop-k : goal.invariant-loop-k
invariant-loop-k l =
    record {
      long : length l.known ≡ 16;
      raised : (j : ℕ) → j < l.k → ceiling_at l.known j ≡ ceiling_with (ceiling_at l.initial.known j) (pair_of l.b j).requests l.task;
      rest : (j : ℕ) → l.k ≤ j → ceiling_at l.known j ≡ ceiling_at l.initial.known j;
    }
