-- Two answers that satisfy a public function's contract are equal.
-- Assumes nothing.
use mathlib.Core.Path.{sym, ◌∙◌}
use Rattle.basics.specs.Determined.{Determined}
use Rattle.rules.proofs.all_or_none.Reads as all_or_none_reads
use Rattle.rules.proofs.alpha.Reads as alpha
use Rattle.rules.proofs.asked.Reads as asked
use Rattle.rules.proofs.first_of.Reads as first_of
use Rattle.rules.proofs.groups_in_range.Reads as groups_in_range_reads
use Rattle.rules.proofs.has_group.Reads as has_group_reads
use Rattle.rules.proofs.in_range.Reads as in_range
use Rattle.rules.proofs.pair.Reads as pair
use Rattle.rules.proofs.times.Reads as times
use Rattle.rules.proofs.times_in_order.Reads as times_in_order_reads
use Rattle.rules.proofs.times_in_range.Reads as times_in_range_reads
use Rattle.rules.proofs.totals_fit.Reads as totals_fit_reads
use Rattle.rules.proofs.used_in_range.Reads as used_in_range_reads

pub first_of_determined : Determined (first_of.Learnt tt)
first_of_determined a x y r s p q = p ∙ sym q

pub in_range_determined : Determined (in_range.Learnt tt)
in_range_determined a x y r s p q = p ∙ sym q

pub times_in_range_determined : Determined (times_in_range_reads.Learnt tt)
times_in_range_determined a x y r s p q = p ∙ sym q

pub times_in_order_determined : Determined (times_in_order_reads.Learnt tt)
times_in_order_determined a x y r s p q = p ∙ sym q

pub times_determined : Determined (times.Learnt tt)
times_determined a x y r s p q = p ∙ sym q

pub used_in_range_determined : Determined (used_in_range_reads.Learnt tt)
used_in_range_determined a x y r s p q = p ∙ sym q

pub totals_fit_determined : Determined (totals_fit_reads.Learnt tt)
totals_fit_determined a x y r s p q = p ∙ sym q

pub pair_determined : Determined (pair.Learnt tt)
pair_determined a x y r s p q = p ∙ sym q

pub groups_in_range_determined : Determined (groups_in_range_reads.Learnt tt)
groups_in_range_determined a x y r s p q = p ∙ sym q

pub has_group_determined : Determined (has_group_reads.Learnt tt)
has_group_determined a x y r s p q = p ∙ sym q

pub all_or_none_determined : Determined (all_or_none_reads.Learnt tt)
all_or_none_determined a x y r s p q = p ∙ sym q

pub alpha_determined : Determined (alpha.Learnt tt)
alpha_determined a x y r s p q = p ∙ sym q

pub asked_determined : Determined (asked.Learnt tt)
asked_determined a x y r s p q = p ∙ sym q
