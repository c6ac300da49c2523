-- What a task runs in a window of a schedule, if its jobs meet their deadlines up to the window's end, is at most its workload.
-- Assumes nothing.
use Prim.Native.Nat.{ℕ, suc, ◌+◌, ◌≤◌, ◌<◌}
use mathlib.Core.Path.{◌≡◌, refl}
use mathlib.Core.Bool.{Bool, true, ◌&&◌}
use native.Mathlib.Nat.{le_trans}
use native.Mathlib.Decide.{dec_lt}
use native.Mathlib.Omega.{arith}
use borrow.Author.Tests.{eq-eqb, eqb-true, leb-true}
use lib.Dec.{eqb}
use Rattle.basics.specs.Choice.{only}
use Rattle.basics.specs.Over.{count_to}
use Rattle.basics.proofs.ChoiceLaws.{and_true}
use Rattle.basics.proofs.SumLaws.{sum_le, sum_part}
use Rattle.theory.specs.Work.{workload}
use Rattle.windows.specs.Sporadic.{Sporadic}
use Rattle.schedules.specs.Jobs.{JobSet}
use Rattle.schedules.specs.Schedule.{Schedule, progress, pending}
use Rattle.windows.proofs.ServedLaws.{hits, served_most}
use Rattle.schedules.proofs.ProgressLaws.{job_most, ran_most}

-- the task runs a unit that counts
abbrev pub works : JobSet → Schedule → ℕ → (ℕ → ℕ → Bool) → ℕ → Bool
works J S l P s = S.runs s l && P (progress J S s l).job (progress J S s l).unit

ticks : JobSet → Schedule → ℕ → (ℕ → ℕ → Bool) → ℕ → ℕ → Bool
ticks J S l P s j = S.runs s l && (eqb (progress J S s l).job j && P j (progress J S s l).unit)

pub load : (J : JobSet) (S : Schedule) (l T D x A t : ℕ) (P : ℕ → ℕ → Bool) → 1 ≤ T → x ≤ D → D ≤ T
    → ((j : ℕ) → 1 ≤ J.cost l j) → ((j : ℕ) → J.release l j + T ≤ J.release l (suc j))
    → ((s : ℕ) → s < A + t → S.runs s l ≡ true → pending J S s l ≡ true)
    → ((j : ℕ) → count_to (J.cost l j) (P j) ≤ x)
    → ((s j : ℕ) → s < A + t → J.release l j + D ≤ s → j < (progress J S s l).job)
    → hits (works J S l P) A t ≤ workload T D t x
unfolding ticks hits
load J S l T D x A t P pos hx hD some apart ready most met =
    let c : Sporadic T D x (A + t) (J.release l) (ticks J S l P) = record {
      apart = apart;
      released = λ s j h e. at_release s j h e;
      in_time = λ s j h e. at_end s j h e (dec_lt s (J.release l j + D));
      most = λ j. le_trans (ran_most J S l some j (P j) (A + t)) (most j);
    } in
    le_trans
    (sum_le t (λ s. only (works J S l P (A + s)) 1) (λ s. count_to (A + t) (ticks J S l P (A + s))) (λ s h. one (A + s) (omega arith)))
    (served_most T D x A t (J.release l) (ticks J S l P) pos hx hD c (A + t))
  where
    own : (s j : ℕ) → ticks J S l P s j ≡ true → (S.runs s l ≡ true) × ((progress J S s l).job ≡ j)
    own s j e =
        let a = and_true (S.runs s l) (eqb (progress J S s l).job j && P j (progress J S s l).unit) e in
        let b = and_true (eqb (progress J S s l).job j) (P j (progress J S s l).unit) a.1 in
        (a.0, eqb-true (progress J S s l).job j b.0)

    at_release : (s j : ℕ) → s < A + t → ticks J S l P s j ≡ true → J.release l j ≤ s
    at_release s j h e = let o = own s j e in let r = leb-true (J.release l (progress J S s l).job) s (ready s h o.0) in rw o.1 at r

    at_end : (s j : ℕ) → s < A + t → ticks J S l P s j ≡ true → Dec (s < J.release l j + D) → s < J.release l j + D
    at_end s j h e (yes d) = d
    at_end s j h e (no d) = absurd (omega (arith, (own s j e).1, met s j h (omega arith)))

    one : (s : ℕ) → s < A + t → only (works J S l P s) 1 ≤ count_to (A + t) (ticks J S l P s)
    one s h =
        let j = (progress J S s l).job in
        let e : ticks J S l P s j ≡ works J S l P s = rw (eq-eqb j j refl) in
        rw (← e) (sum_part (A + t) j (λ i. only (ticks J S l P s i) 1) (omega (arith, job_most J S l some s)))
