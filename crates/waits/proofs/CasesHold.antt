-- The computed cases hold.
-- Assumes nothing.
use mathlib.Core.Path.{refl}
use Rattle.basics.specs.Over.{sum_to, join_to}
use Rattle.basics.specs.Largest.{sum_largest}
use Rattle.waits.specs.Wait.{others_of, others_below, wait_of}
use Rattle.waits.specs.Cases.{view_with, CasesHold}

pub cases_hold : CasesHold
unfolding view_with sum_to join_to sum_largest others_of others_below wait_of
cases_hold =
    record {
      point = refl;
      all = refl;
      each_pair = refl;
      one_of_equals = refl;
      both_equals = refl;
      lowest = refl;
      without_locks = refl;
      over_two = refl;
      over_all = refl;
      short = refl;
    }
