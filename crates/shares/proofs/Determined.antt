-- Two answers that satisfy a public function's contract are equal.
-- Assumes nothing.
use mathlib.Core.Path.{sym, ◌∙◌}
use Rattle.basics.specs.Determined.{Determined}
use Rattle.shares.proofs.shares_of.Reads as shares_of

pub shares_of_determined : Determined (shares_of.Learnt tt)
shares_of_determined a x y r s p q = p ∙ sym q
