-- Assumes nothing.
use mathlib.Core.Path.{refl}
use Rattle.field.specs.Number.{rounded, fraction, time_field, count_field}
use Rattle.field.specs.ThreeDecimals.{short_fraction, short_time}
use Rattle.field.specs.Cases.{marked, times, before, down, up, long, counts, CasesHold}

pub cases_hold : CasesHold
unfolding marked times before down up long counts rounded fraction time_field count_field short_fraction short_time
cases_hold = (refl, refl, refl, refl, refl, refl)
