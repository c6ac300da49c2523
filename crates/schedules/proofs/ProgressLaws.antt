-- How far a task has come in its jobs, and what it has run of each.
-- Assumes nothing.
use Prim.Native.Nat.{ℕ, zero, suc, ◌+◌, ◌≤◌, ◌<◌}
use mathlib.Core.Path.{◌≡◌, refl}
use mathlib.Core.Bool.{Bool, true, false, ◌&&◌}
use native.Mathlib.Nat.{le_refl}
use native.Mathlib.Decide.{dec_lt, ℕ_discrete}
use native.Mathlib.Omega.{arith}
use borrow.Author.Tests.{eq-eqb, ne_eqb, ltb-true, ltb-false}
use lib.Dec.{ltb, eqb}
use Rattle.basics.specs.Choice.{only}
use Rattle.basics.specs.Over.{sum_to, count_to}
use Rattle.basics.proofs.SumLaws.{sum_rises}
use Rattle.schedules.specs.Jobs.{JobSet}
use Rattle.schedules.specs.Schedule.{Schedule, Progress, onward, progress}

-- what c says: how many of the units of job j that count are run at progress p
pub record Ran (J : JobSet) (l j : ℕ) (P : ℕ → Bool) (p : Progress) (c : ℕ) : Type 0 where
  pub not_yet : p.job < j → c ≡ 0
  pub now : p.job ≡ j → c ≡ count_to p.unit P
  pub done : j < p.job → c ≡ count_to (J.cost l j) P

counts : ℕ → (ℕ → Bool) → Progress → Bool
counts j P p = eqb p.job j && P p.unit

same_job : (j : ℕ) (P : ℕ → Bool) (p : Progress) → p.job ≡ j → counts j P p ≡ P p.unit
unfolding counts
same_job j P p e = rw (eq-eqb p.job j e)

other_job : (j : ℕ) (P : ℕ → Bool) (p : Progress) → (p.job ≡ j → ⊥) → counts j P p ≡ false
unfolding counts
other_job j P p e = rw (ne_eqb p.job j e)

module _ (J : JobSet) (l : ℕ) where
  step_unit : (p : Progress) → ltb (suc p.unit) (J.cost l p.job) ≡ true → onward J l true p ≡ record { job = p.job; unit = suc p.unit }
  unfolding onward
  step_unit p e = rw e

  step_job : (p : Progress) → ltb (suc p.unit) (J.cost l p.job) ≡ false → onward J l true p ≡ record { job = suc p.job; unit = 0 }
  unfolding onward
  step_job p e = rw e

  ran_step : (j : ℕ) (P : ℕ → Bool) (p : Progress) (c : ℕ) → p.unit < J.cost l p.job → Ran J l j P p c → (b : Bool)
      → Ran J l j P (onward J l b p) (c + only (b && counts j P p) 1)
  unfolding onward sum_to
  ran_step j P p c h r false = let z : c + 0 ≡ c = omega arith in rw z r
  ran_step j P p c h r true = go (ltb (suc p.unit) (J.cost l p.job)) refl (ℕ_discrete p.job j)
    where
      go : (b : Bool) → ltb (suc p.unit) (J.cost l p.job) ≡ b → Dec (p.job ≡ j) → Ran J l j P (onward J l true p) (c + only (counts j P p) 1)
      go true e (yes d) = rw (step_unit p e, same_job j P p d) (record {
        not_yet = λ m. absurd (omega arith);
        now = λ m. omega (arith, r.now d);
        done = λ m. absurd (omega arith);
      })
      go true e (no d) = rw (step_unit p e, other_job j P p d) (record {
        not_yet = λ m. omega (arith, r.not_yet m);
        now = λ m. absurd (d m);
        done = λ m. omega (arith, r.done m);
      })
      go false e (yes d) =
          let f : suc p.unit ≡ J.cost l j = rw (← d) (omega (arith, ltb-false (suc p.unit) (J.cost l p.job) e)) in
          rw (step_job p e, same_job j P p d) (record {
            not_yet = λ m. absurd (omega arith);
            now = λ m. absurd (omega arith);
            done = λ m. rw (← f) (omega (arith, r.now d));
          })
      go false e (no d) = rw (step_job p e, other_job j P p d) (record {
        not_yet = λ m. omega (arith, r.not_yet (omega arith));
        now = λ m. omega (arith, r.not_yet (omega arith));
        done = λ m. omega (arith, r.done (omega arith));
      })

  step_below : ((j : ℕ) → 1 ≤ J.cost l j) → (p : Progress) → p.unit < J.cost l p.job → (b : Bool)
      → ((onward J l b p).unit < J.cost l (onward J l b p).job) × (p.job ≤ (onward J l b p).job) × ((onward J l b p).job ≤ suc p.job)
  unfolding onward
  step_below some p h false = (h, le_refl _, omega arith)
  step_below some p h true = go (ltb (suc p.unit) (J.cost l p.job)) refl
    where
      go : (b : Bool) → ltb (suc p.unit) (J.cost l p.job) ≡ b
          → ((onward J l true p).unit < J.cost l (onward J l true p).job) × (p.job ≤ (onward J l true p).job) × ((onward J l true p).job ≤ suc p.job)
      go true e = rw (step_unit p e) (ltb-true _ _ e, le_refl _, omega arith)
      go false e = rw (step_job p e) (some (suc p.job), omega arith, omega arith)

module _ (J : JobSet) (S : Schedule) (l : ℕ) (some : (j : ℕ) → 1 ≤ J.cost l j) where
  pub unit_below : (s : ℕ) → (progress J S s l).unit < J.cost l (progress J S s l).job
  unfolding progress
  unit_below zero = some 0
  unit_below (suc s) = (step_below J l some (progress J S s l) (unit_below s) (S.runs s l)).0

  job_next : (s : ℕ) → ((progress J S s l).job ≤ (progress J S (suc s) l).job) × ((progress J S (suc s) l).job ≤ suc (progress J S s l).job)
  unfolding progress
  job_next s = let b = step_below J l some (progress J S s l) (unit_below s) (S.runs s l) in (b.1, b.2)

  pub job_rises : (s t : ℕ) → s ≤ t → (progress J S s l).job ≤ (progress J S t l).job
  job_rises s zero h = let e : s ≡ 0 = omega arith in rw e (le_refl _)
  job_rises s (suc t) h = go (ℕ_discrete s (suc t)) (λ m. job_rises s t m)
    where
      go : Dec (s ≡ suc t) → (s ≤ t → (progress J S s l).job ≤ (progress J S t l).job) → (progress J S s l).job ≤ (progress J S (suc t) l).job
      go (yes e) i = rw e (le_refl _)
      go (no d) i = omega (arith, i (omega arith), job_next t)

  pub job_most : (s : ℕ) → (progress J S s l).job ≤ s
  unfolding progress
  job_most zero = le_refl 0
  job_most (suc s) = omega (arith, job_most s, job_next s)

  pub ran : (j : ℕ) (P : ℕ → Bool) (s : ℕ)
      → Ran J l j P (progress J S s l) (count_to s (λ u. S.runs u l && (eqb (progress J S u l).job j && P (progress J S u l).unit)))
  unfolding progress sum_to counts
  ran j P zero = record { not_yet = λ m. refl; now = λ m. refl; done = λ m. absurd (omega arith) }
  ran j P (suc s) = ran_step J l j P (progress J S s l) _ (unit_below s) (ran j P s) (S.runs s l)

  -- never more than the job's units that count
  pub ran_most : (j : ℕ) (P : ℕ → Bool) (s : ℕ)
      → count_to s (λ u. S.runs u l && (eqb (progress J S u l).job j && P (progress J S u l).unit)) ≤ count_to (J.cost l j) P
  ran_most j P s = go (ran j P s) (unit_below s) (dec_lt (progress J S s l).job j) (dec_lt j (progress J S s l).job)
    where
      go : {c : ℕ} → Ran J l j P (progress J S s l) c → (progress J S s l).unit < J.cost l (progress J S s l).job
          → Dec ((progress J S s l).job < j) → Dec (j < (progress J S s l).job) → c ≤ count_to (J.cost l j) P
      go r b (yes d) e = omega (arith, r.not_yet d)
      go r b (no d) (yes e) = omega (arith, r.done e)
      go r b (no d) (no e) =
          let f : (progress J S s l).job ≡ j = omega arith in
          let g : (progress J S s l).unit < J.cost l j = rw f at b in
          rw (r.now f) (sum_rises _ _ _ (omega arith))

-- ---- from one instant to the next

pub stay : (J : JobSet) (S : Schedule) (s l : ℕ) → S.runs s l ≡ false → progress J S (suc s) l ≡ progress J S s l
unfolding progress onward
stay J S s l e = rw e

pub moved : (J : JobSet) (S : Schedule) (s l : ℕ) → S.runs s l ≡ true → (A : Type 0)
    → (progress J S (suc s) l ≡ record { job = (progress J S s l).job; unit = suc (progress J S s l).unit } → A)
    → (progress J S (suc s) l ≡ record { job = suc (progress J S s l).job; unit = 0 } → A) → A
unfolding progress
moved J S s l e A f g = go (ltb (suc (progress J S s l).unit) (J.cost l (progress J S s l).job)) refl
  where
    go : (b : Bool) → ltb (suc (progress J S s l).unit) (J.cost l (progress J S s l).job) ≡ b → A
    go true h = f (rw e (step_unit J l (progress J S s l) h))
    go false h = g (rw e (step_job J l (progress J S s l) h))
