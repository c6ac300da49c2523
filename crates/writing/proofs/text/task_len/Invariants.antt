-- `writing::text::task_len` meets its contract. The loop's invariant: the sum is the length of the task's own lines and the lines of the pairs passed. Assumes nothing.
use Prim.Native.Nat.{◌+◌, ◌*◌, ◌≤◌}
use mathlib.Core.Path.{◌≡◌}
use mathlib.Core.List.{◌++◌}
use lib.ListN.{length}
use Rattle.basics.specs.Over.{join_to}
use Rattle.writing.specs.Write.{own_text, pair_text}
use Rattle.writing.proofs.text.task_len.Given as goal

abbrev pub invariant-loop-k : goal.invariant-loop-k
invariant-loop-k l = (l.sum ≤ 54 * (2 + l.k)) × (l.sum ≡ length (own_text l.x ++ join_to l.k (pair_text l.x)))
