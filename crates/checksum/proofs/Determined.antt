-- Two answers that satisfy a public function's contract are equal.
-- Assumes nothing.
use mathlib.Core.Path.{sym, ◌∙◌}
use contract.Lifetimes.{Lfts}
use Rattle.basics.specs.Determined.{Determined}
use Rattle.checksum.proofs.check_of.Reads as check_of_reads

pub check_of_determined : (κs : Lfts 1) → Determined (check_of_reads.Learnt κs)
check_of_determined κs a x y r s p q = p ∙ sym q
