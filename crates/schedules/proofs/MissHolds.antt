-- The run beside a task that has no bound: by computing it.
-- Assumes nothing.
use mathlib.Core.Path.{◌≡◌, refl}
use native.Mathlib.Omega.{arith}
use Rattle.basics.specs.Over.{sum_to, max_to, all_to, first_to}
use Rattle.table.specs.Faults.{first_fault}
use Rattle.table.specs.Rules.{times_in_range, times_in_order, times_fault, is_unused, used_in_range, pair_in_range, totals_fit, pair_fault, pairs_fault, alpha_fault, task_fault, last_alpha, tasks_fault, table_fault, groups_in_range}
use Rattle.theory.specs.Work.{uncapped, workload, jobs, ceil_div}
use Rattle.theory.specs.View.{View, level, ceiling}
use Rattle.theory.specs.Demand.{shared_CT, other_CT, all_CT, high_CT, DB, S, O, F, L, demand_with, demand_of}
use Rattle.theory.specs.Tables.{view_of}
use Rattle.schedules.specs.Schedule.{onward, progress, priority, got_after}
use Rattle.schedules.specs.Picture.{jobs_of, run_of}
use Rattle.schedules.specs.Shown.{miss_table, miss_picture, BesideMiss}
use Rattle.schedules.proofs.FactsByTest.{fact_test}
use Rattle.schedules.proofs.GeneratedByTest.{generated_rules, generated_by_test}
use Rattle.schedules.proofs.RunsByTest.{pip_by_test}
use Rattle.schedules.proofs.LeastByTest.{least_by_test, none_by_test}

abbrev miss_view : View
miss_view = view_of miss_table

unfinished : (progress (jobs_of miss_picture) (run_of miss_picture) 11 1).job ≡ 0
unfolding jobs_of run_of onward progress
unfinished = refl

pub miss_holds : BesideMiss
unfolding miss_table sum_to max_to all_to first_to first_fault times_in_range times_in_order times_fault is_unused used_in_range pair_in_range totals_fit pair_fault pairs_fault alpha_fault task_fault last_alpha tasks_fault table_fault groups_in_range uncapped workload jobs ceil_div ceiling shared_CT other_CT all_CT high_CT DB S O F L demand_with onward progress priority got_after jobs_of run_of fact_test generated_rules
miss_holds =
    record {
      accepted = refl;
      misses = none_by_test (demand_of miss_view (level 0)) (miss_view.D (level 0)) refl;
      meets = least_by_test (demand_of miss_view (level 1)) (miss_view.D (level 1)) 4 refl;
      generated = generated_by_test miss_view miss_picture refl;
      scheduled = pip_by_test miss_view (jobs_of miss_picture) (run_of miss_picture) 11 refl;
      longer = λ f. omega (arith, unfinished);
    }
