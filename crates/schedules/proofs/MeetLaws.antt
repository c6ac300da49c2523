-- Every job is finished within a length that covers its task's demand: by induction over the instants.
-- Assumes nothing.
use Prim.Native.Nat.{ℕ, zero, suc, ◌+◌, ◌≤◌, ◌<◌, zero-le}
use mathlib.Core.Path.{◌≡◌, subst}
use mathlib.Core.Bool.{Bool, true, false, ◌&&◌}
use native.Mathlib.Nat.{le_refl, not-suc-le-zero}
use native.Mathlib.Decide.{dec_lt, ℕ_discrete}
use native.Mathlib.Omega.{arith}
use borrow.Author.Tests.{eq-eqb, le-leb}
use lib.Dec.{eqb}
use Rattle.basics.specs.Choice.{only}
use Rattle.basics.specs.Over.{count_to}
use Rattle.basics.proofs.SumLaws.{sum_le}
use Rattle.basics.proofs.CountLaws.{sum_ones}
use Rattle.theory.specs.View.{View, level}
use Rattle.theory.specs.Demand.{demand_with, demand_of}
use Rattle.windows.proofs.ServedLaws.{hits, hits_all}
use Rattle.schedules.specs.Jobs.{JobSet, Generated}
use Rattle.schedules.specs.Schedule.{Schedule, progress, pending, Finished, RespondsWithin}
use Rattle.schedules.specs.Theorem.{Constrained, Closed, Covers}
use Rattle.schedules.proofs.FactLaws.{Obeys}
use Rattle.schedules.proofs.ProgressLaws.{ran, unit_below, job_rises}
use Rattle.schedules.proofs.TermLaws.{Met, S_most}
use Rattle.schedules.proofs.KindLaws.{kinds, full_most}
use Rattle.schedules.proofs.BlockLaws.{DB_most}

module _ (v : View) (J : JobSet) (S : Schedule) (E : ℕ) (fit : Constrained v) (o : Generated v J) (p : Obeys v J S E) (X : ℕ → Type 0) (closed : Closed v X) (R : ℕ → ℕ) (c : Covers demand_of v X R) where
  -- no job of these tasks is late before the instant B
  abbrev NoneLate : ℕ → Type 0
  NoneLate B = (l s j : ℕ) → l < v.n → X l → s < B → J.release l j + R l ≤ s → Finished J S l j s

  -- a job that is due at an instant before which none is late
  module _ (i j : ℕ) (l : i < v.n) (x : X i) (end : J.release i j + R i ≤ E) (none : NoneLate (J.release i j + R i)) where
    some : (j : ℕ) → 1 ≤ J.cost i j
    some j = o.some i j l

    -- the job before it is finished at its release
    from : (j : ℕ) → NoneLate (J.release i j + R i) → j ≤ (progress J S (J.release i j) i).job
    from zero b = zero-le
    from (suc q) b = b i (J.release i (suc q)) q l x (omega (arith, c.low i l x)) (omega (arith, o.apart i q l, c.high i l x, fit.deadline i l))

    met : Met v J S E fit o p i (J.release i j + R i)
    met h m u s q k e = none h s q m (closed i h l x m u) k (omega (arith, c.high h m (closed i h l x m u)))

    -- if it were late, it would be the task's job all that time,
    module _ (late : Finished J S i j (J.release i j + R i) → ⊥) where
      at : (s : ℕ) → J.release i j ≤ s → s ≤ J.release i j + R i → (progress J S s i).job ≡ j
      at s a b = omega (arith, late, job_rises J S i some s (J.release i j + R i) b, job_rises J S i some (J.release i j) s a, from j none)

      there : (s : ℕ) → s < R i → pending J S (J.release i j + s) i ≡ true
      there s h = let e = at (J.release i j + s) (omega arith) (omega arith) in rw e (le-leb (J.release i j) (J.release i j + s) (omega arith))

      -- and would run for less than C,
      runs_most : hits (λ s. S.runs s i) (J.release i j) (R i) < v.C (level i)
      unfolding hits
      runs_most =
          let B = J.release i j + R i in
          let own : ℕ → Bool = λ u. S.runs u i && (eqb (progress J S u i).job j && true) in
          let n : count_to B own ≡ count_to (progress J S B i).unit (λ _. true) = (ran J S i some j (λ _. true) B).now (at B (omega arith) (le_refl _)) in
          let f : hits (λ s. S.runs s i) (J.release i j) (R i) ≤ hits own (J.release i j) (R i) =
          sum_le (R i) (λ s. only (S.runs (J.release i j + s) i) 1) (λ s. only (own (J.release i j + s)) 1)
          (λ s h. same (J.release i j + s) (at (J.release i j + s) (omega arith) (omega arith))) in
          omega (arith, hits_all own (J.release i j) (R i), sum_ones (progress J S B i).unit, unit_below J S i some B, o.run i (progress J S B i).job l)
        where
          same : (u : ℕ) → (progress J S u i).job ≡ j → only (S.runs u i) 1 ≤ only (S.runs u i && (eqb (progress J S u i).job j && true)) 1
          same u e = rw (eq-eqb (progress J S u i).job j e) (go (S.runs u i))
            where
              go : (b : Bool) → only b 1 ≤ only (b && true) 1
              go true = le_refl 1
              go false = le_refl 0

      -- so that the length would be less than the demand at it
      not_late : ⊥
      unfolding demand_with
      not_late =
          omega (
            arith,
            kinds v J S E fit o p i (J.release i j) (R i) end l there,
            runs_most,
            DB_most v J S E o p i j (J.release i j) (R i) l end (λ s a b. at s a (omega arith)),
            S_most v J S E fit o p i (J.release i j) (R i) end met,
            full_most v J S E fit o p i (J.release i j) (R i) end l met,
            c.covers i l x,
          )

    finish : Dec (Finished J S i j (J.release i j + R i)) → Finished J S i j (J.release i j + R i)
    finish (yes d) = d
    finish (no d) = absurd (not_late d)

  never_late : (B : ℕ) → B ≤ suc E → NoneLate B
  never_late zero b l s j k x h e = absurd (not-suc-le-zero h)
  never_late (suc B) b l s j k x h e = go (never_late B (omega arith)) (dec_lt s B) (ℕ_discrete (J.release l j + R l) s)
    where
      go : NoneLate B → Dec (s < B) → Dec (J.release l j + R l ≡ s) → Finished J S l j s
      go n (yes d) f = n l s j k x d e
      go n (no d) (yes f) =
          subst (λ (u : ℕ). Finished J S l j u) f
          (finish l j k x (omega arith) (λ m u q y z w r. n m u q y z (omega arith) r) (dec_lt j (progress J S (J.release l j + R l) l).job))
      go n (no d) (no f) =
          omega (arith, n l (J.release l j + R l) j k x (omega arith) (le_refl _), job_rises J S l (λ q. o.some l q k) (J.release l j + R l) s e)

  pub in_time : (i : ℕ) → i < v.n → X i → RespondsWithin J S E i (R i)
  in_time i l x j s e b = never_late (suc s) (omega arith) i s j l x (omega arith) e
