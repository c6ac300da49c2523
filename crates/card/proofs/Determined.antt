-- Two answers that satisfy a public function's contract are equal.
-- Assumes nothing.
use mathlib.Core.Path.{sym, ◌∙◌}
use contract.Lifetimes.{Lfts}
use Rattle.basics.specs.Determined.{Determined, DeterminedWith}
use Rattle.card.proofs.write.Reads as write
use Rattle.card.proofs.read.Reads as read

pub write_determined : (κs : Lfts 1) → DeterminedWith (λ x. x.1.0.now) (write.Learnt κs)
write_determined κs a x y r s p q = (p.0 ∙ sym q.0, p.1 ∙ sym q.1)

pub read_determined : (κs : Lfts 1) → Determined (read.Learnt κs)
read_determined κs a x y r s p q = p ∙ sym q
