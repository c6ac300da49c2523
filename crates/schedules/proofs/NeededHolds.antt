-- No fact about a kernel, no term of the demand and no task that is read can be left out: for each there is a run in which a job takes longer.
-- Assumes nothing.
use Prim.Native.Nat.{ℕ}
use mathlib.Core.Path.{◌≡◌, refl}
use mathlib.Core.Bool.{true}
use lib.Dec.{eqb}
use Rattle.basics.specs.Over.{sum_to, max_to, all_to, first_to}
use Rattle.table.specs.declared.Level.{Level}
use Rattle.theory.specs.Work.{uncapped, workload, jobs, ceil_div}
use Rattle.theory.specs.View.{View, ceiling}
use Rattle.theory.specs.Demand.{shared_CT, other_CT, all_CT, high_CT, DB, S, O, F, L, demand_with, demand_of}
use Rattle.schedules.specs.Jobs.{JobSet}
use Rattle.theory.specs.Tables.{view_of}
use Rattle.schedules.specs.Schedule.{Schedule, onward, progress, priority, got_after, KernelFact, runs_pending, runs_locked, conserves, one_holder, holds_pending, holds_lock, keeps, goes_on, asked_on, not_past, UnderPIP}
use Rattle.schedules.specs.Wrong.{UnderPIPBut, OtherKernel, spins, no_inheritance, ahead_in, UnderOther, WrongDemand, no_DB, no_S, no_O, no_F, no_L, once_a_lock, divided_S, next_short, next_ceiling, one_less, wrong_demand}
use Rattle.schedules.specs.Theorem.{Closed, NoneLonger, finer}
use Rattle.schedules.specs.Picture.{jobs_of, run_of}
use Rattle.schedules.specs.Broken.{LateRun, broken_run, other_run, picture_of, lengths_of, system_of}
use Rattle.schedules.specs.Small.{small_run}
use Rattle.schedules.specs.Shown.{miss_table, miss_picture}
use Rattle.schedules.proofs.FactsByTest.{fact_test}
use Rattle.schedules.proofs.GeneratedByTest.{generated_rules}
use Rattle.schedules.proofs.CoveredByTest.{constrained_rules, covers_rules}
use Rattle.schedules.proofs.RunsByTest.{fact_number, pip_test, pip_by_test, but_test, but_by_test, other_test, other_by_test}
use Rattle.schedules.proofs.RefuteLaws.{due, refuting_rules, refutes, refuted}

-- a run of `Broken`, with a demand: it is drawn up to the instant `drawn_due`, and its set is of all tasks
module _ (demand : View → Level → ℕ → ℕ) (b : LateRun) where
  abbrev drawn_view : View
  drawn_view = finer 1 (system_of b)

  abbrev drawn_jobs : JobSet
  drawn_jobs = jobs_of (picture_of b)

  abbrev drawn_run : Schedule
  drawn_run = run_of (picture_of b)

  abbrev drawn_due : ℕ
  drawn_due = due demand (system_of b) (picture_of b) (λ _. true) (lengths_of b) b.late

  longer : (Run : View → JobSet → Schedule → ℕ → Type 0) → refutes demand (system_of b) (picture_of b) (λ _. true) (lengths_of b) b.late ≡ true
      → Run drawn_view drawn_jobs drawn_run drawn_due → NoneLonger demand Closed Run → ⊥
  longer Run e run = refuted demand (system_of b) (picture_of b) (λ _. true) (lengths_of b) b.late Closed Run e (λ i l h x k u. refl) run

broken : (g : KernelFact) (b : LateRun) → refutes demand_of (system_of b) (picture_of b) (λ _. true) (lengths_of b) b.late ≡ true
    → but_test (drawn_view demand_of b) (drawn_jobs demand_of b) (drawn_run demand_of b) (drawn_due demand_of b) g ≡ true → NoneLonger demand_of Closed (UnderPIPBut g) → ⊥
broken g b e f = longer demand_of b (UnderPIPBut g) e (but_by_test (drawn_view demand_of b) (drawn_jobs demand_of b) (drawn_run demand_of b) (drawn_due demand_of b) g f)

pub needed_holds : (g : KernelFact) → NoneLonger demand_of Closed (UnderPIPBut g) → ⊥
unfolding broken_run sum_to max_to all_to first_to uncapped workload jobs ceil_div ceiling shared_CT other_CT all_CT high_CT DB S O F L demand_with onward progress priority got_after jobs_of run_of fact_test generated_rules constrained_rules covers_rules refuting_rules fact_number
needed_holds runs_pending = broken runs_pending (broken_run runs_pending) refl refl
needed_holds runs_locked = broken runs_locked (broken_run runs_locked) refl refl
needed_holds conserves = broken conserves (broken_run conserves) refl refl
needed_holds one_holder = broken one_holder (broken_run one_holder) refl refl
needed_holds holds_pending = broken holds_pending (broken_run holds_pending) refl refl
needed_holds holds_lock = broken holds_lock (broken_run holds_lock) refl refl
needed_holds keeps = broken keeps (broken_run keeps) refl refl
needed_holds goes_on = broken goes_on (broken_run goes_on) refl refl
needed_holds asked_on = broken asked_on (broken_run asked_on) refl refl
needed_holds not_past = broken not_past (broken_run not_past) refl refl

other : (o : OtherKernel) (b : LateRun) → refutes demand_of (system_of b) (picture_of b) (λ _. true) (lengths_of b) b.late ≡ true
    → but_test (drawn_view demand_of b) (drawn_jobs demand_of b) (drawn_run demand_of b) (drawn_due demand_of b) conserves ≡ true
    → other_test (drawn_view demand_of b) (drawn_jobs demand_of b) (drawn_run demand_of b) (drawn_due demand_of b) o ≡ true → NoneLonger demand_of Closed (UnderOther o) → ⊥
other o b e f g = longer demand_of b (UnderOther o) e (other_by_test (drawn_view demand_of b) (drawn_jobs demand_of b) (drawn_run demand_of b) (drawn_due demand_of b) o f g)

pub kernels_holds : (o : OtherKernel) → NoneLonger demand_of Closed (UnderOther o) → ⊥
unfolding other_run ahead_in sum_to max_to all_to first_to uncapped workload jobs ceil_div ceiling shared_CT other_CT all_CT high_CT DB S O F L demand_with onward progress priority got_after jobs_of run_of fact_test generated_rules constrained_rules covers_rules refuting_rules fact_number
kernels_holds spins = other spins (other_run spins) refl refl refl
kernels_holds no_inheritance = other no_inheritance (other_run no_inheritance) refl refl refl

small : (d : WrongDemand) (b : LateRun) → refutes (wrong_demand d) (system_of b) (picture_of b) (λ _. true) (lengths_of b) b.late ≡ true
    → pip_test (drawn_view (wrong_demand d) b) (drawn_jobs (wrong_demand d) b) (drawn_run (wrong_demand d) b) (drawn_due (wrong_demand d) b) ≡ true → NoneLonger (wrong_demand d) Closed UnderPIP → ⊥
small d b e f = longer (wrong_demand d) b UnderPIP e (pip_by_test (drawn_view (wrong_demand d) b) (drawn_jobs (wrong_demand d) b) (drawn_run (wrong_demand d) b) (drawn_due (wrong_demand d) b) f)

pub terms_holds : (d : WrongDemand) → NoneLonger (wrong_demand d) Closed UnderPIP → ⊥
unfolding small_run wrong_demand sum_to max_to all_to first_to uncapped workload jobs ceil_div ceiling shared_CT other_CT all_CT high_CT DB S O F L demand_with onward progress priority got_after jobs_of run_of fact_test generated_rules constrained_rules covers_rules refuting_rules
terms_holds no_DB = small no_DB (small_run no_DB) refl refl
terms_holds no_S = small no_S (small_run no_S) refl refl
terms_holds no_O = small no_O (small_run no_O) refl refl
terms_holds no_F = small no_F (small_run no_F) refl refl
terms_holds no_L = small no_L (small_run no_L) refl refl
terms_holds once_a_lock = small once_a_lock (small_run once_a_lock) refl refl
terms_holds divided_S = small divided_S (small_run divided_S) refl refl
terms_holds next_short = small next_short (small_run next_short) refl refl
terms_holds next_ceiling = small next_ceiling (small_run next_ceiling) refl refl
terms_holds one_less = small one_less (small_run one_less) refl refl

pub all_read_holds : NoneLonger demand_of (λ v X. Unit) UnderPIP → ⊥
unfolding miss_table sum_to max_to all_to first_to uncapped workload jobs ceil_div ceiling shared_CT other_CT all_CT high_CT DB S O F L demand_with onward progress priority got_after jobs_of run_of fact_test generated_rules constrained_rules covers_rules refuting_rules
all_read_holds =
    refuted demand_of (view_of miss_table) miss_picture (λ l. eqb l 1) (λ l. 4) 1 (λ v X. Unit) UnderPIP refl tt (pip_by_test (finer 1 (view_of miss_table)) (jobs_of miss_picture) (run_of miss_picture) 11 refl)
