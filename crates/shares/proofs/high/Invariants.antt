-- `shares::high` meets its contract. The invariant: the first k marks are there. Assumes nothing.
use Rattle.std.proofs.Common.{◌≡◌, ℕ, ◌<◌, length}
use Rattle.theory.specs.View.{is_above}
use Rattle.shares.specs.Pass.{mark_at, ceiling_at}
use Rattle.shares.proofs.high.Given as goal

abbrev pub invariant-loop-k : goal.invariant-loop-k
invariant-loop-k l = (length l.on ≡ 16) × ((j : ℕ) → j < l.k → mark_at l.on j ≡ is_above (ceiling_at l.known j) l.i)
