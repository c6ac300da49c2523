-- The paper's points marked P hold: what is printed of a listing by reading it and computing the rounds of each task, the rest by computing.
-- Assumes nothing.
use Prim.Native.String.{String}
use mathlib.Core.Path.{refl}
use lib.Dec.{lit≤}
use Rattle.basics.specs.Over.{sum_to, max_to, first_to, join_to, all_to}
use Rattle.basics.specs.Largest.{sum_largest}
use Rattle.table.specs.Empty.{empty_task, empty_table}
use Rattle.table.specs.Faults.{first_fault}
use Rattle.table.specs.Rules.{times_in_range, times_in_order, times_fault, is_unused, used_in_range, pair_in_range, totals_fit, pair_fault, pairs_fault, alpha_fault, task_fault, last_alpha, tasks_fault, table_fault, groups_in_range, has_group}
use Rattle.field.specs.Number.{rounded, fraction, time_field, count_field}
use Rattle.put.specs.Text.{width, count_text}
use Rattle.line.specs.Fields.{field_count}
use Rattle.line.specs.Line.{cpus_line, task_line, alpha_line, use_line, line_says, group_line}
use Rattle.listing.specs.Read.{past_after, new_task, table_after, read_end, read_lines, read_listing}
use Rattle.theory.specs.declared.Verdict.TheVariants.{Open}
use Rattle.theory.specs.Work.{uncapped, workload, jobs, ceil_div}
use Rattle.theory.specs.View.{ceiling}
use Rattle.theory.specs.Demand.{shared_CT, other_CT, all_CT, high_CT, DB, S, O, F, L, demand_with}
use Rattle.theory.specs.Rounds.{counted_from}
use Rattle.theory.specs.Tables.{counted_by}
use Rattle.waits.specs.Wait.{others_of, others_below, wait_of}
use Rattle.page.specs.declared.Columns.TheVariants.{Four, Five}
use Rattle.page.specs.Report.{report_allowance, bench_allowance, row_with, row_text}
use Rattle.theory.specs.Merge.{slot_of, merged_pair, merged_task, grouped_tasks, merged_tasks}
use Rattle.promises.specs.Points.{Holds, All, none, ◌and◌, points}
use Rattle.promises.proofs.ThreeTasks.{three, met, missed, meets_in, misses_in, some_allowed}

pub points_hold : All points
unfolding Holds points sum_to max_to first_to join_to sum_largest others_of others_below wait_of empty_task empty_table first_fault times_in_range times_in_order times_fault is_unused used_in_range pair_in_range totals_fit pair_fault pairs_fault alpha_fault task_fault last_alpha tasks_fault table_fault rounded fraction time_field count_field width count_text field_count cpus_line task_line alpha_line use_line line_says past_after new_task table_after read_end read_lines read_listing uncapped workload jobs ceil_div ceiling shared_CT other_CT all_CT high_CT DB S O F L demand_with counted_from counted_by row_with row_text bench_allowance groups_in_range all_to merged_tasks has_group group_line slot_of merged_pair merged_task grouped_tasks
points_hold =
    (let s : String = "cpus 2\ntask 10 2.5 10\nuse 1 1 0.5 0.5\ntask 20 4 15\ntask 30 6 30\nuse 1 2 0.75 1.5\n" in
    three Five report_allowance s (met 3_250 2) (met 4_000 1) (met 14_500 6) some_allowed refl refl (meets_in s 0 2 tt refl) (meets_in s 1 1 tt refl) (meets_in s 2 6 tt refl))
    and (let s : String = "cpus 2\ntask 10 2.5 10\nuse 1 1 0.5 0.5\ntask 20 4 15\ntask 30 6 14.5\nuse 1 2 0.75 1.5\n" in
    three Five report_allowance s (met 3_250 2) (met 4_000 1) (met 14_500 6) some_allowed refl refl (meets_in s 0 2 tt refl) (meets_in s 1 1 tt refl) (meets_in s 2 6 tt refl))
    and (let s : String = "cpus 2\ntask 10 2.5 10\nuse 1 1 0.5 0.5\ntask 20 4 15\ntask 30 6 14.499\nuse 1 2 0.75 1.5\n" in
    three Five report_allowance s (met 3_250 2) (met 4_000 1) (missed 5) some_allowed refl refl (meets_in s 0 2 tt refl) (meets_in s 1 1 tt refl) (misses_in s 2 5 tt refl))
    and (let s : String = "cpus 2\ntask 10 2.5 10\nuse 1 1 0.5 0.5\ntask 20 4 15\ntask 30 6 30\nuse 1 2 0.75 1.5\n" in
    three Four bench_allowance s (met 3_250 2) (met 4_000 1) (record { verdict = Open; rounds = 5 }) (lit≤ tt) refl refl refl refl refl)
    and (let s : String = "cpus 2\ntask 10 2 10\nalpha 2\nuse 1 2 0.05 0.1\ntask 20 4 20\nalpha 2\nuse 2 1 0.3 0.3\nuse 3 1 0.7 0.7\ntask 30 6 30\nalpha 2\nuse 2 1 0.4 0.4\n" in
    three Five report_allowance s (met 2_000 1) (met 4_400 2) (met 12_800 11) some_allowed refl refl (meets_in s 0 1 tt refl) (meets_in s 1 2 tt refl) (meets_in s 2 11 tt refl))
    and (let s : String = "cpus 2\ngroup 2 2\ngroup 2 3\ntask 10 2 10\nalpha 2\nuse 1 2 0.05 0.1\ntask 20 4 20\nalpha 2\nuse 2 1 0.6 0.6\nuse 3 1 0.7 0.7\ntask 30 6 30\nalpha 2\nuse 2 1 0.4 0.4\n" in
    three Five report_allowance s (met 2_000 1) (met 4_800 2) (met 14_300 4) some_allowed refl refl (meets_in s 0 1 tt refl) (meets_in s 1 2 tt refl) (meets_in s 2 4 tt refl))
    and refl
    and refl
    and refl
    and refl
    and refl
    and refl
    and refl
    and refl
    and refl
    and refl
    and none
