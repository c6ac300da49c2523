-- Two answers that satisfy a public function's contract are equal, and so is what then lies in the output.
-- Assumes nothing.
use mathlib.Core.Path.{sym, ◌∙◌}
use contract.Lifetimes.{Lfts}
use Rattle.basics.specs.Determined.{Determined, DeterminedWith}
use Rattle.page.proofs.page_of.Reads as page_of
use Rattle.page.proofs.put_page.Reads as put_page

pub page_of_determined : (κs : Lfts 1) → Determined (page_of.Learnt κs)
page_of_determined κs a x y r s p q = p ∙ sym q

pub put_page_determined : (κs : Lfts 1) → DeterminedWith (λ x. x.0.now) (put_page.Learnt κs)
put_page_determined κs a x y r s p q = (p.0 ∙ sym q.0, p.1 ∙ sym q.1)
