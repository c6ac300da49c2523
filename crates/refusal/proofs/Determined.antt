-- Two answers that satisfy a public function's contract are equal.
-- Assumes nothing.
use mathlib.Core.Path.{sym, ◌∙◌}
use contract.Lifetimes.{Lfts}
use Rattle.basics.specs.Determined.{DeterminedWith}
use Rattle.refusal.proofs.put_refusal.Reads as put_refusal

pub put_refusal_determined : (κs : Lfts 1) → DeterminedWith (λ x. x.0.now) (put_refusal.Learnt κs)
put_refusal_determined κs a x y r s p q = (p.0 ∙ sym q.0, p.1 ∙ sym q.1)
