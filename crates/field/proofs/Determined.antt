-- Two answers that satisfy a public function's contract are equal.
-- Assumes nothing.
use mathlib.Core.Path.{sym, ◌∙◌}
use contract.Lifetimes.{Lfts}
use Rattle.basics.specs.Determined.{Determined}
use Rattle.field.proofs.count.Reads as count
use Rattle.field.proofs.ends_at.Reads as ends_at
use Rattle.field.proofs.time.Reads as time

pub time_determined : (κs : Lfts 1) → Determined (time.Learnt κs)
time_determined κs a x y r s p q = p.0 ∙ sym q.0

pub count_determined : (κs : Lfts 1) → Determined (count.Learnt κs)
count_determined κs a x y r s p q = p.0 ∙ sym q.0

pub ends_at_determined : (κs : Lfts 1) → Determined (ends_at.Learnt κs)
ends_at_determined κs a x y r s p q = p ∙ sym q
