-- `writing::text::head_len` meets its contract. The loop's invariant: the sum is the length of the first line and the lines of the resources passed. Assumes nothing.
use Prim.Native.Nat.{◌+◌, ◌*◌, ◌≤◌}
use mathlib.Core.Path.{◌≡◌}
use mathlib.Core.List.{◌++◌}
use lib.ListN.{length}
use Rattle.basics.specs.Over.{join_to}
use Rattle.writing.specs.Write.{member_text}
use Rattle.writing.proofs.WriteLaws.{cpus_text}
use Rattle.writing.proofs.text.head_len.Given as goal

abbrev pub invariant-loop-k : goal.invariant-loop-k
invariant-loop-k l = (l.sum ≤ 54 * (1 + l.k)) × (l.sum ≡ length (cpus_text l.cpus ++ join_to l.k (member_text l.groups)))
