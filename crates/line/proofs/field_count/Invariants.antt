-- `line::field_count` meets its contract. The loop's invariant: n fields begun, the last of them empty so far where there is a gap, and what is left of the line make up the fields of the whole. Assumes nothing.
use Prim.Native.Nat.{◌+◌, ◌≤◌}
use mathlib.Core.Path.{◌≡◌}
use lib.ListN.{drop}
use Rattle.line.specs.Fields.{field_count}
use Rattle.line.proofs.FormLaws.{tally}
use Rattle.line.proofs.field_count.Given as goal

abbrev pub invariant-loop-i : goal.invariant-loop-i
invariant-loop-i l = (l.n ≤ l.i + 1) × (tally l.n l.gap (drop l.i l.line) ≡ field_count l.line)
