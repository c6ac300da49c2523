-- The computed cases hold.
-- Assumes nothing.
use mathlib.Core.Path.{refl}
use Rattle.basics.specs.Over.{sum_to, max_to, first_to}
use Rattle.theory.specs.Work.{jobs, uncapped, workload, ceil_div}
use Rattle.theory.specs.View.{ceiling}
use Rattle.theory.specs.Demand.{shared_CT, other_CT, all_CT, high_CT, DB, S, O, F, L, demand_with}
use Rattle.theory.specs.Rounds.{counted_from}
use Rattle.theory.specs.Merge.{slot_of, merged_pair}
use Rattle.theory.specs.Cases.{four, CasesHold}

pub cases_hold : CasesHold
unfolding four sum_to max_to first_to jobs uncapped workload ceil_div ceiling shared_CT other_CT all_CT high_CT DB S O F L demand_with counted_from slot_of merged_pair
cases_hold =
    record {
      a_third = refl;
      a_half = refl;
      waits = refl;
      shared = refl;
      others = refl;
      free = refl;
      lower = refl;
      long = refl;
      short = refl;
      capped = refl;
      repeats = refl;
      to_spare = refl;
      runs_out = refl;
      passes = refl;
      none_allowed = refl;
      together = refl;
      by_itself = refl;
      at_the_other = refl;
      all_sixteen = refl;
    }
