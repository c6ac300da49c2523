-- Two answers that satisfy a public function's contract are equal.
-- Assumes nothing.
use mathlib.Core.Path.{sym, ◌∙◌}
use contract.Lifetimes.{Lfts}
use Rattle.basics.specs.Determined.{Determined, DeterminedWith}
use Rattle.block.proofs.put_block.Reads as put_block
use Rattle.block.proofs.is_good.Reads as is_good
use Rattle.block.proofs.head_of.Reads as head_of
use Rattle.block.proofs.task_of.Reads as task_of

pub put_block_determined : (κs : Lfts 1) → DeterminedWith (λ x. x.0.now) (put_block.Learnt κs)
put_block_determined κs a x y r s p q = (p.0 ∙ sym q.0, p.1 ∙ sym q.1)

pub is_good_determined : (κs : Lfts 1) → Determined (is_good.Learnt κs)
is_good_determined κs a x y r s p q = p ∙ sym q

pub head_of_determined : (κs : Lfts 1) → Determined (head_of.Learnt κs)
head_of_determined κs a x y r s p q = p ∙ sym q

pub task_of_determined : (κs : Lfts 1) → Determined (task_of.Learnt κs)
task_of_determined κs a x y r s p q = p ∙ sym q
