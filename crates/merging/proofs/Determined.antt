-- Two answers that satisfy a public function's contract are equal.
-- Assumes nothing.
use mathlib.Core.Path.{sym, ◌∙◌}
use Rattle.basics.specs.Determined.{Determined}
use Rattle.merging.proofs.merge.Reads as merge

pub merge_determined : Determined (merge.Learnt tt)
merge_determined a x y r s p q = p ∙ sym q
