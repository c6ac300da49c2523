-- A drawn run in which a job takes longer than its task's length refutes that none does.
-- Assumes nothing.
use Prim.Native.Nat.{ℕ, ◌+◌}
use mathlib.Core.Path.{◌≡◌}
use mathlib.Core.Bool.{Bool, true}
use mathlib.Core.List.{List, [], ◌∷◌}
use native.Mathlib.Nat.{le_refl}
use native.Mathlib.Omega.{arith}
use borrow.Author.Tests.{eqb-true, ltb-true}
use lib.Dec.{T, eqb, ltb, lit<}
use lib.ListN.{get_or}
use Rattle.basics.specs.Over.{all_to}
use Rattle.basics.proofs.AllLaws.{all_at}
use Rattle.table.specs.declared.Level.{Level}
use Rattle.theory.specs.View.{View}
use Rattle.schedules.specs.Jobs.{JobSet}
use Rattle.schedules.specs.Schedule.{Schedule, progress, Finished}
use Rattle.schedules.specs.Theorem.{NoneLonger, finer}
use Rattle.schedules.specs.Picture.{Picture, jobs_of, run_of}
use Rattle.schedules.proofs.GeneratedByTest.{generated_test, generated_by_test}
use Rattle.schedules.proofs.CoveredByTest.{constrained_test, constrained_by_test, covers_test, covers_by_test}

-- of these tasks, with these lengths, the first job of the one at the slot `late` is not finished in time
module _ (demand : View → Level → ℕ → ℕ) (v : View) (p : Picture) (x : ℕ → Bool) (R : ℕ → ℕ) (late : ℕ) where
  -- the end of the run: by then the job is to be finished
  abbrev pub due : ℕ
  due = (jobs_of p).release late 0 + R late

  unfoldable pub refuting_rules : List Bool
  refuting_rules =
      constrained_test v
      ∷ covers_test v demand x R
      ∷ generated_test (finer 1 v) p
      ∷ ltb late v.n
      ∷ x late
      ∷ eqb (progress (jobs_of p) (run_of p) due late).job 0
      ∷ []

  abbrev pub refutes : Bool
  refutes = all_to 6 (λ r. get_or refuting_rules r true)

  pub refuted : (Tasks : View → (ℕ → Type 0) → Type 0) (Run : View → JobSet → Schedule → ℕ → Type 0) → refutes ≡ true → Tasks v (λ i. x i ≡ true) → Run (finer 1 v) (jobs_of p) (run_of p) due
      → NoneLonger demand Tasks Run → ⊥
  unfolding refuting_rules
  refuted Tasks Run e c run bounds =
      let rule : (r : ℕ) → T (ltb r 6) → get_or refuting_rules r true ≡ true = λ r h. all_at 6 r _ e (lit< h) in
      let system = constrained_by_test v (rule 0 tt) in
      let lengths = covers_by_test v demand x R (rule 1 tt) in
      let generated = generated_by_test (finer 1 v) p (rule 2 tt) in
      let within : Finished (jobs_of p) (run_of p) late 0 due =
      bounds v system (λ i. x i ≡ true) c R lengths 1 (le_refl 1) (jobs_of p) generated (run_of p) due run late (ltb-true _ _ (rule 3 tt)) (rule 4 tt) 0 due (omega arith) (le_refl due) in
      let unfinished : (progress (jobs_of p) (run_of p) due late).job ≡ 0 = eqb-true _ _ (rule 5 tt) in
      omega arith
