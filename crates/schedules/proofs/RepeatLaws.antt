-- A run that repeats: in each cycle, from one release of the jobs to the next, every task finishes one job. What holds up to the end of the first cycle, holds for ever.
-- Assumes nothing.
use Prim.Native.Nat.{ℕ, zero, suc, ◌+◌, ◌-◌, ◌*◌, ◌/◌, ◌≤◌, ◌<◌}
use mathlib.Core.Path.{◌≡◌, refl, ap, subst, ◌∙◌}
use mathlib.Core.Bool.{Bool, true, false}
use native.Mathlib.Nat.{le_refl, add-zero, add-suc, add-div_left}
use native.Mathlib.Decide.{dec_le}
use native.Mathlib.Omega.{arith}
use borrow.Author.Tests.{le-leb, lt-leb}
use lib.Dec.{leb, ltb}
use lib.ListN.{get_or}
use Rattle.basics.specs.Choice.{pick}
use Rattle.theory.specs.View.{View}
use Rattle.schedules.specs.Schedule.{Progress, onward, progress, KernelFact, FactAt}
use Rattle.schedules.specs.Picture.{Picture, jobs_of, run_of}
use Rattle.schedules.proofs.AlikeLaws.{Alike, fact_alike}

leb_more : (a b k : ℕ) → leb (k + a) (k + b) ≡ leb a b
leb_more a b k = go (dec_le a b)
  where
    go : Dec (a ≤ b) → leb (k + a) (k + b) ≡ leb a b
    go (yes d) = rw (le-leb a b d, le-leb (k + a) (k + b) (omega arith))
    go (no d) = rw (lt-leb a b (omega arith), lt-leb (k + a) (k + b) (omega arith))

-- what holds up to the instant g, and g later where it holds at an instant other than 0, holds at every instant
module _ (P : ℕ → Type 0) (g : ℕ) (pos : 0 < g) (start : (s : ℕ) → s ≤ g → P s) (step : (q : ℕ) → P (suc q) → P (g + suc q)) where
  cycle_by : (b s : ℕ) → s ≤ b → P s
  cycle_by zero s h = start s (omega arith)
  cycle_by (suc b) s h = go (dec_le s g) (λ q k. cycle_by b (suc q) k)
    where
      go : Dec (s ≤ g) → ((q : ℕ) → suc q ≤ b → P (suc q)) → P s
      go (yes d) ih = start s d
      go (no d) ih = let e : g + suc (s - g - 1) ≡ s = omega arith in subst P e (step (s - g - 1) (ih (s - g - 1) (omega arith)))

  pub cycle_after_cycle : (s : ℕ) → P s
  cycle_after_cycle s = cycle_by s s (le_refl s)

-- one job further
abbrev further : Progress → Progress
further q = record { job = suc q.job; unit = q.unit }

module _ (p : Picture) where
  -- all jobs of a task are alike
  onward_further : (l : ℕ) (b : Bool) (q : Progress) → onward (jobs_of p) l b (further q) ≡ further (onward (jobs_of p) l b q)
  unfolding onward jobs_of
  onward_further l false q = refl
  onward_further l true q = go (ltb (suc q.unit) ((jobs_of p).cost l q.job))
    where
      go : (b : Bool) → pick b record { job = suc q.job; unit = suc q.unit } record { job = suc (suc q.job); unit = 0 }
          ≡ further (pick b record { job = q.job; unit = suc q.unit } record { job = suc q.job; unit = 0 })
      go true = refl
      go false = refl

  module _ (pos : 0 < p.cycle) where
    -- the place in the text
    same_place : (s : ℕ) → p.cycle + s - (p.cycle + s) / p.cycle * p.cycle ≡ s - s / p.cycle * p.cycle
    same_place s = rw (add-div_left s {k = p.cycle} pos) (omega arith)

    pub runs_again : (s l : ℕ) → (run_of p).runs (p.cycle + s) l ≡ (run_of p).runs s l
    unfolding run_of
    runs_again s l = rw (same_place s)

    holds_again : (s l : ℕ) → (run_of p).holds (p.cycle + s) l ≡ (run_of p).holds s l
    unfolding run_of
    holds_again s l = rw (same_place s)

    asked_again : (s l : ℕ) → (run_of p).asked (p.cycle + s) l ≡ (run_of p).asked s l
    unfolding run_of
    asked_again s l = rw (same_place s)

    module _ (v : View) (every : (l : ℕ) → l < v.n → get_or p.gaps l 0 ≡ p.cycle) (each : (l : ℕ) → l < v.n → progress (jobs_of p) (run_of p) p.cycle l ≡ record { job = 1; unit = 0 }) where
      progress_again : (s l : ℕ) → l < v.n → progress (jobs_of p) (run_of p) (p.cycle + s) l ≡ further (progress (jobs_of p) (run_of p) s l)
      unfolding progress
      progress_again zero l h = rw add-zero (each l h)
      progress_again (suc s) l h =
          rw (add-suc, runs_again s l)
          (ap (onward (jobs_of p) l ((run_of p).runs s l)) (progress_again s l h) ∙ onward_further l ((run_of p).runs s l) (progress (jobs_of p) (run_of p) s l))

      alike_again : (s : ℕ) → Alike v (jobs_of p) (run_of p) s (p.cycle + s)
      unfolding jobs_of
      alike_again s =
          record {
            runs = runs_again s;
            holds = holds_again s;
            asked = asked_again s;
            pending = λ l h.
                let j = (progress (jobs_of p) (run_of p) s l).job in
                let e : get_or p.first l 0 + suc j * p.cycle ≡ p.cycle + (get_or p.first l 0 + j * p.cycle) = omega arith in
                rw (progress_again s l h, every l h, e) (leb_more (get_or p.first l 0 + j * p.cycle) s p.cycle);
            needs = λ l h. rw (progress_again s l h);
            begins = λ l h. rw (progress_again s l h);
          }

      fact_again : (q : ℕ) (f : KernelFact) → FactAt v (jobs_of p) (run_of p) (suc q) f → FactAt v (jobs_of p) (run_of p) (p.cycle + suc q) f
      fact_again q f x = rw add-suc (fact_alike v (jobs_of p) (run_of p) q (p.cycle + q) (alike_again q) (rw add-suc at (alike_again (suc q))) f x)

      pub repeats : ((s : ℕ) → s ≤ p.cycle → (f : KernelFact) → FactAt v (jobs_of p) (run_of p) s f) → (s : ℕ) (f : KernelFact) → FactAt v (jobs_of p) (run_of p) s f
      repeats start = cycle_after_cycle (λ (s : ℕ). (f : KernelFact) → FactAt v (jobs_of p) (run_of p) s f) p.cycle pos start (λ q x f. fact_again q f (x f))
