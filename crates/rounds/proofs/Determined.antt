-- Two answers that satisfy a public function's contract are equal.
-- Assumes nothing.
use mathlib.Core.Path.{sym, ◌∙◌}
use Rattle.basics.specs.Determined.{Determined}
use Rattle.rounds.proofs.outcome_of.Reads as outcome_of_reads

pub outcome_of_determined : Determined (outcome_of_reads.Learnt tt)
outcome_of_determined a x y r s p q = p ∙ sym q
