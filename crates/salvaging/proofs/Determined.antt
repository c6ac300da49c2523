-- Two answers that satisfy a public function's contract are equal.
-- Assumes nothing.
use Prim.Native.Nat.{ℕ}
use mathlib.Core.Path.{sym, ◌∙◌}
use mathlib.Core.List.{List}
use contract.Lifetimes.{Lfts}
use Rattle.basics.specs.Determined.{Determined, DeterminedWith}
use Rattle.salvaging.proofs.Fate.code.Reads as code
use Rattle.salvaging.proofs.blocks_of.Reads as blocks_of_reads
use Rattle.salvaging.proofs.salvage.Reads as salvage

pub code_determined : Determined (code.Learnt tt)
code_determined a x y r s p q = p ∙ sym q

pub blocks_of_determined : Determined (blocks_of_reads.Learnt tt)
blocks_of_determined a x y r s p q = p ∙ sym q

-- the list and the output
pub salvage_determined : (κs : Lfts 3) → DeterminedWith {H = List ℕ × List ℕ} (λ x. (x.1.0.now, x.1.1.0.now)) (salvage.Learnt κs)
salvage_determined κs a x y r s p q = (p.0 ∙ sym q.0, λ j. ((p.1 ∙ sym q.1) j, (p.2 ∙ sym q.2) j))
