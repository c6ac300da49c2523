-- (7) to (10): the terms S, O, F and L bound what the other tasks run in a window, as far as the tasks whose workloads count meet their deadlines up to its end.
-- Assumes nothing.
use Prim.Native.Nat.{ℕ, zero, suc, ◌+◌, ◌≤◌, ◌<◌, zero-le}
use mathlib.Core.Path.{◌≡◌, refl, sym, subst}
use mathlib.Core.Bool.{Bool, true, false, not}
use native.Mathlib.Nat.{le_trans}
use native.Mathlib.Omega.{arith}
use lib.Dec.{leb}
use Rattle.basics.specs.Choice.{only}
use Rattle.basics.specs.Over.{sum_to, count_to}
use Rattle.basics.proofs.ChoiceLaws.{and_true}
use Rattle.basics.proofs.OnceLaws.{some_count}
use Rattle.basics.proofs.SumLaws.{sum_le}
use Rattle.basics.proofs.CountLaws.{sum_swap, count_none}
use Rattle.theory.specs.Work.{workload}
use Rattle.theory.specs.View.{View, level, resource, is_above, uses, ceiling}
use Rattle.theory.specs.Demand.{shared_CT, other_CT, high_CT, S as STerm, O as OTerm, F as FTerm, L as LTerm, units_read}
use Rattle.windows.proofs.ServedLaws.{hits}
use Rattle.schedules.specs.Jobs.{JobSet, Generated}
use Rattle.schedules.specs.Schedule.{Schedule, progress, Finished}
use Rattle.schedules.specs.Theorem.{Constrained}
use Rattle.schedules.proofs.FactLaws.{Obeys}
use Rattle.schedules.proofs.ProgressLaws.{unit_below}
use Rattle.schedules.proofs.LoadLaws.{works, load}
use Rattle.schedules.proofs.TallyLaws.{only_sum}
use Rattle.schedules.proofs.UnitLaws.{high_lock, budget, as_S, as_O, as_F, within_run, as_S_most, as_O_most, as_F_most, high_most}

keep : (b : Bool) {x y : ℕ} → (b ≡ true → x ≤ y) → only b x ≤ only b y
keep true h = h refl
keep false h = zero-le

-- over a window, task by task
term : (t n A : ℕ) (a : ℕ → Bool) (g : ℕ → ℕ → Bool) (w : ℕ → ℕ) → ((h : ℕ) → h < n → a h ≡ true → hits (g h) A t ≤ w h)
    → sum_to t (λ s. sum_to n (λ h. only (a h) (only (g h (A + s)) 1))) ≤ sum_to n (λ h. only (a h) (w h))
unfolding hits
term t n A a g w most =
    subst (λ (x : ℕ). x ≤ sum_to n (λ h. only (a h) (w h))) (sym (sum_swap t n (λ s h. only (a h) (only (g h (A + s)) 1))))
    (sum_le n (λ h. sum_to t (λ s. only (a h) (only (g h (A + s)) 1))) (λ h. only (a h) (w h))
    (λ h l. le_trans (only_sum t (a h) (λ s. only (g h (A + s)) 1)) (keep (a h) (most h l))))

module _ (v : View) (J : JobSet) (S : Schedule) (E : ℕ) (fit : Constrained v) (o : Generated v J) (p : Obeys v J S E) (i : ℕ) where
  -- task h meets its deadlines before the instant B
  abbrev pub MetBefore : ℕ → ℕ → Type 0
  MetBefore B h = (s j : ℕ) → s < B → J.release h j + v.D (level h) ≤ s → Finished J S h j s

  -- the units of a task that count, at most x of each job: no more than its workload. Where x is 0 there are none, whether it meets or not
  counted : (A t h x : ℕ) (P : ℕ → ℕ → Bool) → A + t ≤ E → (1 ≤ x → MetBefore (A + t) h) → h < v.n → x ≤ v.C (level h) → ((j : ℕ) → count_to (J.cost h j) (P j) ≤ x)
      → hits (works J S h P) A t ≤ workload (v.T (level h)) (v.D (level h)) t x
  unfolding hits
  counted A t h zero P end met l hx most = omega (arith, count_none t (λ s. works J S h P (A + s)) (λ s m. none (A + s) (works J S h P (A + s)) refl))
    where
      none : (s : ℕ) (b : Bool) → works J S h P s ≡ b → b ≡ false
      none s true e =
          let j = (progress J S s h).job in
          let c = some_count (J.cost h j) (progress J S s h).unit (P j) (unit_below J S h (λ j. o.some h j l) s) (and_true (S.runs s h) _ e).1 in
          absurd (omega (arith, most j))
      none s false e = refl
  counted A t h (suc x) P end met l hx most =
      load J S h (v.T (level h)) (v.D (level h)) (suc x) A t P (fit.positive h l) (omega (arith, fit.run h l)) (fit.deadline h l)
      (λ j. o.some h j l) (λ j. o.apart h j l) (λ s m e. p.runs_there s h (omega arith) l e) most (λ s j m e. met (omega arith) s j m e)

  -- the tasks whose workloads count meet their deadlines before the instant B
  abbrev pub Met : ℕ → Type 0
  Met B = (h : ℕ) → h < v.n → 1 ≤ units_read v (level i) (level h) → MetBefore B h

  pub S_most : (A t : ℕ) → A + t ≤ E → Met (A + t)
      → sum_to t (λ s. sum_to v.n (λ h. only (is_above (level h) (level i)) (only (works J S h (as_S v J fit o i h) (A + s)) 1))) ≤ STerm workload v (level i) t
  unfolding STerm shared_CT units_read
  S_most A t end met = term t v.n A (λ h. is_above (level h) (level i)) (λ h. works J S h (as_S v J fit o i h)) _
      (λ h l a. counted A t h (shared_CT v (level i) (level h)) (as_S v J fit o i h) end (λ x. met h l (rw a (omega arith))) l (within_run v J fit o i h l (λ k. uses v (level i) (resource k))) (λ j. as_S_most v J fit o i h l j))

  -- the others count for i > m alone
  module _ (long : leb (suc i) v.cpus ≡ false) where
    pub O_most : (A t : ℕ) → A + t ≤ E → Met (A + t)
        → sum_to t (λ s. sum_to v.n (λ h. only (is_above (level h) (level i)) (only (works J S h (as_O v J fit o i h) (A + s)) 1))) ≤ OTerm workload v (level i) t
    unfolding OTerm other_CT units_read
    O_most A t end met = term t v.n A (λ h. is_above (level h) (level i)) (λ h. works J S h (as_O v J fit o i h)) _
        (λ h l a. counted A t h (other_CT v (level i) (level h)) (as_O v J fit o i h) end (λ x. met h l (rw (a, long) (omega arith))) l (within_run v J fit o i h l (λ k. not (uses v (level i) (resource k)))) (λ j. as_O_most v J fit o i h l j))

    pub F_most : (A t : ℕ) → A + t ≤ E → Met (A + t)
        → sum_to t (λ s. sum_to v.n (λ h. only (is_above (level h) (level i)) (only (works J S h (as_F v J fit o i h) (A + s)) 1))) ≤ FTerm workload v (level i) t
    unfolding FTerm units_read
    F_most A t end met = term t v.n A (λ h. is_above (level h) (level i)) (λ h. works J S h (as_F v J fit o i h)) _
        (λ h l a. counted A t h (budget v J fit o i h) (as_F v J fit o i h) end (λ x. met h l (rw (a, long) (omega arith))) l (omega arith) (λ j. as_F_most v J fit o i h l j))

    pub L_most : (A t : ℕ) → A + t ≤ E → Met (A + t)
        → sum_to t (λ s. sum_to v.n (λ h. only (is_above (level i) (level h)) (only (works J S h (high_lock v J fit o i h) (A + s)) 1))) ≤ LTerm workload v (level i) t
    unfolding LTerm high_CT units_read
    L_most A t end met = term t v.n A (λ h. is_above (level i) (level h)) (λ h. works J S h (high_lock v J fit o i h)) _
        (λ h l a. counted A t h (high_CT v (level i) (level h)) (high_lock v J fit o i h) end (λ x. met h l (rw (a, long) (omega arith))) l (within_run v J fit o i h l (λ k. is_above (ceiling v (resource k)) (level i))) (λ j. high_most v J fit o i h l j))
