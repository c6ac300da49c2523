-- The run that is shown: by computing its first cycle, since the others are like it.
-- Assumes nothing.
use Prim.Native.Nat.{ℕ, zero, suc, ◌+◌, ◌≤◌, ◌<◌}
use mathlib.Core.Path.{◌≡◌, refl}
use mathlib.Core.Bool.{true}
use native.Mathlib.Omega.{arith}
use borrow.Author.Tests.{leb-true}
use lib.Dec.{leb, lit<}
use lib.ListN.{get_or}
use Rattle.basics.specs.Choice.{only}
use Rattle.basics.specs.Over.{sum_to, max_to, all_to, first_to, count_to}
use Rattle.basics.proofs.AllLaws.{all_at}
use Rattle.basics.proofs.SumLaws.{sum_eq}
use Rattle.std.specs.Prelude.{Ok}
use Rattle.table.specs.Faults.{first_fault}
use Rattle.table.specs.Rules.{times_in_range, times_in_order, times_fault, is_unused, used_in_range, pair_in_range, totals_fit, pair_fault, pairs_fault, alpha_fault, task_fault, last_alpha, tasks_fault, table_fault, groups_in_range}
use Rattle.theory.specs.Work.{uncapped, workload, jobs, ceil_div}
use Rattle.theory.specs.View.{View, level, ceiling}
use Rattle.theory.specs.Demand.{shared_CT, other_CT, all_CT, high_CT, DB, S, O, F, L, demand_with, demand_of}
use Rattle.theory.specs.Bound.{Least}
use Rattle.theory.specs.Tables.{view_of}
use Rattle.schedules.specs.Jobs.{Generated}
use Rattle.schedules.specs.Schedule.{KernelFact, FactAt, onward, progress, priority, got_after}
use Rattle.schedules.specs.Schedule.KernelFact.{runs_pending, runs_locked, conserves, one_holder, holds_pending, holds_lock, keeps, goes_on, asked_on, not_past}
use Rattle.schedules.specs.Picture.{jobs_of, run_of}
use Rattle.schedules.specs.Shown.{shown_table, shown_bounds, shown_picture, shown_jobs, shown_run, Shown}
use Rattle.schedules.proofs.FactsByTest.{fact_test, fact_by_test}
use Rattle.schedules.proofs.GeneratedByTest.{generated_rules, generated_by_test}
use Rattle.schedules.proofs.LeastByTest.{least_test, least_by_test}
use Rattle.schedules.proofs.RepeatLaws.{cycle_after_cycle, runs_again, repeats}

abbrev shown_view : View
shown_view = view_of shown_table

accepted : table_fault shown_table ≡ Ok tt
unfolding shown_table sum_to first_fault times_in_range times_in_order times_fault is_unused used_in_range pair_in_range totals_fit pair_fault pairs_fault alpha_fault task_fault last_alpha tasks_fault table_fault groups_in_range all_to
accepted = refl

bounded_test : all_to 4 (λ i. least_test (demand_of shown_view (level i)) (shown_view.D (level i)) (get_or shown_bounds i 0)) ≡ true
unfolding shown_table sum_to max_to all_to first_to uncapped workload jobs ceil_div ceiling shared_CT other_CT all_CT high_CT DB S O F L demand_with
bounded_test = refl

bounded : (i : ℕ) → i < 4 → Least (demand_of shown_view (level i)) (shown_view.D (level i)) (get_or shown_bounds i 0)
bounded i h = least_by_test _ _ _ (all_at 4 i _ bounded_test h)

generated : Generated shown_view shown_jobs
unfolding shown_table generated_rules jobs_of sum_to all_to
generated = generated_by_test shown_view shown_picture refl

facts_test : (f : KernelFact) → all_to 21 (λ s. fact_test shown_view shown_jobs shown_run s f) ≡ true
unfolding shown_table sum_to all_to first_to jobs_of run_of onward progress priority got_after fact_test
facts_test runs_pending = refl
facts_test runs_locked = refl
facts_test conserves = refl
facts_test one_holder = refl
facts_test holds_pending = refl
facts_test holds_lock = refl
facts_test keeps = refl
facts_test goes_on = refl
facts_test asked_on = refl
facts_test not_past = refl

first_cycle : (s : ℕ) → s ≤ 20 → (f : KernelFact) → FactAt shown_view shown_jobs shown_run s f
first_cycle s h f = fact_by_test shown_view shown_jobs shown_run s f (all_at 21 s _ (facts_test f) (omega arith))

finished : (l : ℕ) → l < shown_view.n → progress shown_jobs shown_run 20 l ≡ record { job = 1; unit = 0 }
unfolding shown_table jobs_of run_of onward progress
finished zero h = refl
finished (suc zero) h = refl
finished (suc (suc zero)) h = refl
finished (suc (suc (suc zero))) h = refl
finished (suc (suc (suc (suc l)))) h = absurd (omega arith)

every : (l : ℕ) → l < shown_view.n → get_or shown_picture.gaps l 0 ≡ 20
unfolding shown_table
every zero h = refl
every (suc zero) h = refl
every (suc (suc zero)) h = refl
every (suc (suc (suc zero))) h = refl
every (suc (suc (suc (suc l)))) h = absurd (omega arith)

places_test : all_to 21 (λ s. leb (count_to 4 (shown_run.runs s)) 2) ≡ true
unfolding sum_to all_to run_of
places_test = refl

places : (s : ℕ) → count_to 4 (shown_run.runs s) ≤ 2
places =
    cycle_after_cycle (λ (s : ℕ). count_to 4 (shown_run.runs s) ≤ 2) 20 (lit< tt)
    (λ s h. leb-true _ _ (all_at 21 s _ places_test (omega arith)))
    (λ q h. rw (sum_eq 4 (λ l. only (shown_run.runs (20 + suc q) l) 1) (λ l. only (shown_run.runs (suc q) l) 1) (λ l _. rw (runs_again shown_picture (lit< tt) (suc q) l))) h)

pub shown_holds : Shown
unfolding shown_table sum_to first_to jobs_of run_of onward progress priority
shown_holds =
    record {
      accepted = accepted;
      bounded = bounded;
      generated = generated;
      scheduled = λ E s h f. repeats shown_picture (lit< tt) shown_view every finished first_cycle s f;
      places = places;
      idle = refl;
      waiting = refl;
      inherits = refl;
      raised = (refl, refl, refl, refl);
      handed = (refl, refl);
      preempted = (refl, refl, refl, refl);
      sharp = (refl, refl);
    }
