-- Two answers that satisfy a public function's contract are equal.
-- Assumes nothing.
use mathlib.Core.Path.{sym, ◌∙◌}
use Rattle.basics.specs.Determined.{Determined}
use Rattle.checking.proofs.check.Reads as check

pub check_determined : Determined (check.Learnt tt)
check_determined a x y r s p q = p ∙ sym q
