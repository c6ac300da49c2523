-- The laws of the analysis.
--   CasesHold     the computed cases
--   WorkLaws      jobs_rise, uncapped_rises; workload_rises, workload_window, workload_less, workload_none; ceil_div_rises, ceil_div_whole
--   GrowLaws      workload_grows
--   LeastLaws     Rises, From, from_start, from_step, past; least_unique, least_none, keeps_bound
--   RoundLaws     round_repeats, round_passes, round_goes_on; no_end, counts_once, counts_more, counts_unique
--   AllowanceLaws open_rounds, settled_rounds, going_open, open_above, open_count, rounds_most, stays
--   EndLaws       counts_exists; Right, counted_right, meets_if, misses_if
--   MergeLaws     slot_alone, slot_found, slot_below, pair_alone; none_tasks, merged_task_lem, merged_pair_lem; merged_agrees, merged_bounds
--   PassLaws      ceiling_above, split_all, largest_none, where_used
--   DemandLaws    Runs, NoMore, demand_start, TermsGrow, demand_le, terms_itself, demand_rises
--   BoundLaws     terms_keep, capped_keeps
pub mod CasesHold
pub mod WorkLaws
pub mod GrowLaws
pub mod LeastLaws
pub mod RoundLaws
pub mod AllowanceLaws
pub mod EndLaws
pub mod MergeLaws
pub mod PassLaws
pub mod DemandLaws
pub mod BoundLaws
