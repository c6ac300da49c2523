-- `merging::merge_task` meets its contract. The loop's invariant: the pairs are those of the resources passed, each at its slot. Assumes nothing.
use mathlib.Core.Path.{◌≡◌}
use Rattle.basics.specs.Over.{row_to}
use Rattle.table.specs.Limits.{max_resources}
use Rattle.merging.proofs.SlotLaws.{part_to}
use Rattle.merging.proofs.merge_task.Given as goal

abbrev pub invariant-loop-j : goal.invariant-loop-j
invariant-loop-j l = l.pairs ≡ row_to max_resources (part_to l.groups l.x l.j)
