-- Two answers that satisfy a public function's contract are equal.
-- Assumes nothing.
use mathlib.Core.Path.{sym, ◌∙◌}
use contract.Lifetimes.{Lfts}
use Rattle.basics.specs.Determined.{Determined}
use Rattle.listing.proofs.read.Reads as read

pub read_determined : (κs : Lfts 1) → Determined (read.Learnt κs)
read_determined κs a x y r s p q = p ∙ sym q
