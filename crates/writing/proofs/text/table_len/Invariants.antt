-- `writing::text::table_len` meets its contract. The loop's invariant: the sum is the length of the lines before the tasks and of the lines of the tasks passed. Assumes nothing.
use Prim.Native.Nat.{◌+◌, ◌*◌, ◌≤◌}
use mathlib.Core.Path.{◌≡◌}
use mathlib.Core.List.{◌++◌}
use lib.ListN.{length}
use Rattle.basics.specs.Over.{join_to}
use Rattle.writing.proofs.WriteLaws.{head_of, lines_of}
use Rattle.writing.proofs.text.table_len.Given as goal

abbrev pub invariant-loop-i : goal.invariant-loop-i
invariant-loop-i l = (l.sum ≤ 54 * (17 + 18 * l.i)) × (l.sum ≡ length (head_of l.t ++ join_to l.i (lines_of l.t)))
