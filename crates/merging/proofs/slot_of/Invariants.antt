-- `merging::slot_of` meets its contract. The loop's invariant: no resource passed is of this one's group. Assumes nothing.
use Prim.Native.Nat.{ℕ, ◌<◌}
use mathlib.Core.Path.{◌≡◌}
use lib.ListN.{get_or}
use Rattle.merging.proofs.slot_of.Given as goal

abbrev pub invariant-loop-k : goal.invariant-loop-k
invariant-loop-k l = (i : ℕ) → i < l.k → get_or l.groups i 0 ≡ get_or l.groups l.j 0 → ⊥
