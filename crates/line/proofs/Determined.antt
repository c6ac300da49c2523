-- Two answers that satisfy a public function's contract are equal.
-- Assumes nothing.
use mathlib.Core.Path.{sym, ◌∙◌}
use contract.Lifetimes.{Lfts}
use Rattle.basics.specs.Determined.{Determined}
use Rattle.line.proofs.line_of.Reads as line_of

pub line_of_determined : (κs : Lfts 1) → Determined (line_of.Learnt κs)
line_of_determined κs a x y r s p q = p ∙ sym q
