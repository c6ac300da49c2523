-- Two answers that satisfy a public function's contract are equal.
-- Assumes nothing.
use mathlib.Core.Path.{sym, ◌∙◌}
use contract.Lifetimes.{Lfts}
use Rattle.basics.specs.Determined.{Determined, DeterminedWith}
use Rattle.put.proofs.count_len.Reads as count_len
use Rattle.put.proofs.put_count.Reads as put_count
use Rattle.put.proofs.put_text.Reads as put_text
use Rattle.put.proofs.put_time.Reads as put_time
use Rattle.put.proofs.spaced_count.Reads as spaced_count
use Rattle.put.proofs.time_len.Reads as time_len

pub put_time_determined : (κs : Lfts 1) → DeterminedWith (λ x. x.0.now) (put_time.Learnt κs)
put_time_determined κs a x y r s p q = (p.0 ∙ sym q.0, p.1 ∙ sym q.1)

pub put_count_determined : (κs : Lfts 1) → DeterminedWith (λ x. x.0.now) (put_count.Learnt κs)
put_count_determined κs a x y r s p q = (p.0 ∙ sym q.0, p.1 ∙ sym q.1)

pub put_text_determined : (κs : Lfts 2) → DeterminedWith (λ x. x.0.now) (put_text.Learnt κs)
put_text_determined κs a x y r s p q = (p.0 ∙ sym q.0, p.1 ∙ sym q.1)

pub spaced_count_determined : (κs : Lfts 1) → DeterminedWith (λ x. x.0.now) (spaced_count.Learnt κs)
spaced_count_determined κs a x y r s p q = (p.0 ∙ sym q.0, p.1 ∙ sym q.1)

pub count_len_determined : Determined (count_len.Learnt tt)
count_len_determined a x y r s p q = p ∙ sym q

pub time_len_determined : Determined (time_len.Learnt tt)
time_len_determined a x y r s p q = p ∙ sym q
