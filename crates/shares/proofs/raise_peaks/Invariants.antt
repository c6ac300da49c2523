-- `shares::raise_peaks` meets its contract. The invariant: the first k peaks are raised, and the others are as they were. Assumes nothing.
use Rattle.std.proofs.Common.{◌≡◌, ℕ, ◌<◌, ◌≤◌, length, max}
use Rattle.table.specs.At.{pair_of}
use Rattle.shares.specs.Pass.{peak_at}
use Rattle.shares.proofs.raise_peaks.Given as goal

abbrev pub invariant-loop-k : goal.invariant-loop-k
invariant-loop-k l =
    record {
      long : length l.peaks ≡ 16;
      raised : (j : ℕ) → j < l.k → peak_at l.peaks j ≡ max (peak_at l.initial.peaks j) (pair_of l.b j).longest;
      rest : (j : ℕ) → l.k ≤ j → peak_at l.peaks j ≡ peak_at l.initial.peaks j;
    }
