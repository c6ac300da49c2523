-- Two answers that satisfy a public function's contract are equal.
-- Assumes nothing.
use mathlib.Core.Path.{sym, ◌∙◌}
use Rattle.basics.specs.Determined.{Determined}
use Rattle.waits.proofs.wait.Reads as wait
use Rattle.waits.proofs.wait_all.Reads as wait_all

pub wait_determined : Determined (wait.Learnt tt)
wait_determined a x y r s p q = p ∙ sym q

pub wait_all_determined : Determined (wait_all.Learnt tt)
wait_all_determined a x y r s p q = p ∙ sym q
