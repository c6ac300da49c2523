-- Request 3/12 holds, and the developer's story is as it tells.
-- Assumes nothing.
use Prim.Native.Nat.{ℕ, ◌≤◌, ◌<◌}
use mathlib.Core.Path.{◌≡◌, refl}
use native.Mathlib.Omega.{arith}
use lib.Dec.{lit<}
use Rattle.basics.specs.Over.{sum_to, max_to, first_to, all_to}
use Rattle.table.specs.declared.Table.{Table}
use Rattle.std.specs.Prelude.{Ok}
use Rattle.table.specs.Rules.{times_in_range, times_in_order, times_fault, is_unused, used_in_range, pair_in_range, totals_fit, pair_fault, pairs_fault, alpha_fault, task_fault, last_alpha, tasks_fault, table_fault, groups_in_range, has_group}
use Rattle.table.specs.Empty.{empty_task, empty_table}
use Rattle.table.specs.Faults.{first_fault}
use Rattle.field.specs.Number.{rounded, fraction, time_field, count_field}
use Rattle.put.specs.Text.{width, count_text}
use Rattle.line.specs.Fields.{field_count}
use Rattle.line.specs.Line.{cpus_line, task_line, use_line, line_says, group_line}
use Rattle.listing.specs.Read.{past_after, new_task, table_after, read_end, read_lines, read_listing}
use Rattle.theory.specs.declared.Verdict.TheVariants.{Meets, Misses}
use Rattle.theory.specs.Work.{uncapped, workload, jobs, ceil_div}
use Rattle.theory.specs.View.{level, ceiling}
use Rattle.theory.specs.Demand.{shared_CT, other_CT, all_CT, high_CT, DB, S, O, F, L, demand_with}
use Rattle.theory.specs.Bound.{Least}
use Rattle.theory.specs.Rounds.{counted_from}
use Rattle.theory.specs.Tables.{merged_view, counted_by}
use Rattle.theory.proofs.WorkLaws.{uncapped_rises, workload_window, workload_less, workload_rises}
use Rattle.theory.proofs.GrowLaws.{workload_grows}
use Rattle.theory.proofs.BoundLaws.{capped_keeps}
use Rattle.analysis.proofs.ByRounds.{bounds_runs, by_rounds}
use Rattle.page.specs.declared.Columns.TheVariants.{Five}
use Rattle.page.specs.Report.{report_allowance, row_with, row_text}
use Rattle.theory.specs.Merge.{merged_tasks, merged}
use Rattle.theory.proofs.MergeLaws.{merged_bounds}
use Rattle.promises.specs.Words.{read_table}
use Rattle.promises.specs.Demand2.{demand_in, deadline_in}
use Rattle.promises.specs.Window.{uncapped_demand_in, Window, before, shortened, relaxed, Story}
use Rattle.promises.proofs.ThreeTasks.{three, met, meets_in, some_allowed}

keeps : (t : Table) (i : ℕ) → table_fault t ≡ Ok tt → i < t.n → (u : ℕ) → Least (uncapped_demand_in t i) (deadline_in t i) u
    → (w : ℕ) × Least (demand_in t i) (deadline_in t i) w × (w ≤ u)
keeps t i e h u l = capped_keeps (merged_view t) (bounds_runs (merged t) (merged_bounds t e)) (level i) u l

pub window_holds : Window
unfolding workload uncapped jobs
window_holds =
    record {
      most = workload_window;
      smaller = λ T D t x. refl;
      less = workload_less;
      rises = workload_rises;
      fell = (refl, refl);
      grows = workload_grows;
      grows_to_run = λ t i e h s x x' l k.
          let g = ((merged_bounds t e).task i h).times in
          workload_grows _ _ s x x' (omega arith) (omega arith) l (omega arith);
      read = λ t i s. refl;
      keeps = keeps;
    }

pub story_holds : Story
unfolding sum_to max_to first_to empty_task empty_table first_fault times_in_range times_in_order times_fault is_unused used_in_range pair_in_range totals_fit pair_fault pairs_fault alpha_fault task_fault last_alpha tasks_fault table_fault rounded fraction time_field count_field width count_text field_count cpus_line task_line use_line line_says past_after new_task table_after read_end read_lines read_listing uncapped workload jobs ceil_div ceiling shared_CT other_CT all_CT high_CT DB S O F L demand_with counted_from counted_by row_with row_text groups_in_range all_to merged_tasks has_group group_line
story_holds =
    record {
      met = by_rounds uncapped uncapped_rises (merged (read_table before)) 2 (merged_bounds (read_table before) refl) (lit< tt) 13 {v = Meets 4_000} refl;
      missed = by_rounds uncapped uncapped_rises (merged (read_table shortened)) 2 (merged_bounds (read_table shortened) refl) (lit< tt) 3 {v = Misses} refl;
      meets = three Five report_allowance before (met 1_000 1) (met 6_000 1) (met 4_000 13) some_allowed refl refl (meets_in before 0 1 tt refl) (meets_in before 1 1 tt refl) (meets_in before 2 13 tt refl);
      still_meets = three Five report_allowance shortened (met 1_000 1) (met 5_000 1) (met 4_000 13) some_allowed refl refl (meets_in shortened 0 1 tt refl) (meets_in shortened 1 1 tt refl) (meets_in shortened 2 13 tt refl);
      met_late = by_rounds uncapped uncapped_rises (merged (read_table relaxed)) 2 (merged_bounds (read_table relaxed) refl) (lit< tt) 14 {v = Meets 5_000} refl;
      meets_earlier = three Five report_allowance relaxed (met 1_000 1) (met 5_000 1) (met 4_000 13) some_allowed refl refl (meets_in relaxed 0 1 tt refl) (meets_in relaxed 1 1 tt refl) (meets_in relaxed 2 13 tt refl);
    }
