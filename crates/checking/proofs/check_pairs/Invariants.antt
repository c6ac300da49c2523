-- `checking::check_pairs` meets its contract. The loop's invariant: the sum is that of the pairs passed, and none of them has a fault. Assumes nothing.
use Rattle.std.proofs.Common.{◌≡◌, ◌*◌, ◌≤◌, Ok}
use Rattle.basics.specs.Over.{sum_to}
use Rattle.table.specs.At.{total_of}
use Rattle.table.specs.Faults.{first_fault}
use Rattle.table.specs.Rules.{pair_fault_of}
use Rattle.checking.proofs.check_pairs.Given as goal

abbrev pub invariant-loop-p : goal.invariant-loop-p
invariant-loop-p l = record {
  small : l.sum ≤ l.p-index * 4294967295;
  summed : l.sum ≡ sum_to l.p-index (total_of l.fn.x);
  fine : first_fault l.p-index (pair_fault_of l.place l.fn.x) ≡ Ok tt;
}
