-- `checking::check_tasks` meets its contract. The loop's invariant: none of the tasks passed has a fault, and the last alpha is theirs. Assumes nothing.
use Rattle.std.proofs.Common.{◌≡◌, Ok}
use Rattle.table.specs.Faults.{first_fault}
use Rattle.table.specs.Rules.{last_alpha, task_fault_at}
use Rattle.checking.proofs.check_tasks.Given as goal

abbrev pub invariant-loop-i : goal.invariant-loop-i
invariant-loop-i l = (l.last ≡ last_alpha l.t l.i) × (first_fault l.i (task_fault_at l.t) ≡ Ok tt)
