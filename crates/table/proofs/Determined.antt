-- Two answers that satisfy a public function's contract are equal.
-- Assumes nothing.
use mathlib.Core.Path.{sym, ◌∙◌}
use Rattle.basics.specs.Determined.{Determined}
use Rattle.table.proofs.Fault.number.Reads as number
use Rattle.table.proofs.Table.empty.Reads as empty

pub number_determined : Determined (number.Learnt tt)
number_determined a x y r s p q = p ∙ sym q

pub empty_determined : Determined (empty.Learnt tt)
empty_determined a x y r s p q = p ∙ sym q
