-- `writing::text::put_head` meets its contract. The loop's invariant: the output is filled with the first line and the lines of the resources passed. Assumes nothing.
use mathlib.Core.List.{◌++◌}
use Rattle.basics.specs.Over.{join_to}
use Rattle.basics.proofs.FillLaws.{Filled}
use Rattle.writing.specs.Write.{member_text}
use Rattle.writing.proofs.WriteLaws.{cpus_text}
use Rattle.writing.proofs.text.put_head.Given as goal

abbrev pub invariant-loop-k : goal.invariant-loop-k
invariant-loop-k l = Filled l.fn.out l.out (cpus_text l.cpus ++ join_to l.k (member_text l.groups)) l.at
