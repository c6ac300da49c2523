-- Assumes nothing.
use mathlib.Core.Path.{refl}
use Rattle.checksum.specs.Sum.{word_at, ones_plus, ones_sum, check_of}
use Rattle.checksum.specs.Cases.{cases, CasesHold}

pub cases_hold : CasesHold
unfolding cases word_at ones_plus ones_sum check_of
cases_hold = refl
