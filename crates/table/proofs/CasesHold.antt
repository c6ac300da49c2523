-- Assumes nothing.
use mathlib.Core.Path.{refl}
use Rattle.basics.specs.Over.{sum_to, all_to}
use Rattle.table.specs.Faults.{first_fault}
use Rattle.table.specs.Rules.{times_in_range, times_in_order, groups_in_range, alpha_fault, is_unused, used_in_range, pair_in_range, totals_fit, pair_fault, pairs_fault, task_fault, last_alpha, tasks_fault, table_fault}
use Rattle.table.specs.Cases.{cases, CasesHold}

pub cases_hold : CasesHold
unfolding cases sum_to all_to first_fault times_in_range times_in_order groups_in_range alpha_fault is_unused used_in_range pair_in_range totals_fit pair_fault pairs_fault task_fault last_alpha tasks_fault table_fault
cases_hold = refl
