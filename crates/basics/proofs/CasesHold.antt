-- The computed cases hold.
-- Assumes nothing.
use mathlib.Core.Path.{refl}
use Rattle.basics.specs.Largest.{sum_largest}
use Rattle.basics.specs.Cases.{CasesHold}

pub cases_hold : CasesHold
unfolding sum_largest
cases_hold = record { two = refl; two_first = refl; one_of_equals = refl; both_equals = refl; all = refl; none = refl; of_none = refl }
