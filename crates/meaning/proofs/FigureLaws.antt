-- Figures that obey the rules make a table that obeys them.
-- Assumes nothing.
use Prim.Native.Nat.{ℕ, zero, suc, ◌+◌, ◌-◌, ◌≤◌, ◌<◌}
use mathlib.Core.Path.{◌≡◌, refl, sym, ap, subst, ◌∙◌}
use mathlib.Core.List.{List, [], ◌∷◌}
use mathlib.Core.Logic.{◌⊎◌, inl, inr}
use native.Mathlib.Omega.{arith}
use native.Mathlib.Nat.{not-suc-le-zero}
use lib.ListN.{length}
use native.Mathlib.Decide.{ℕ_discrete}
use lib.Dec.{eqb, ltb}
use borrow.Author.Tests.{eq-eqb, ne_eqb}
use Rattle.basics.specs.Choice.{pick, only}
use Rattle.basics.specs.Over.{sum_to}
use Rattle.basics.proofs.SumLaws.{sum_le, sum_add, sum_eq, sum_bound, sum_single}
use Rattle.table.specs.declared.Pair.{Pair}
use Rattle.table.specs.declared.Task.{Task}
use Rattle.table.specs.Limits.{max_tasks, max_resources}
use Rattle.table.specs.Empty.{unused_pair}
use Rattle.table.specs.At.{no_task, task_at, alpha_at, total_of}
use Rattle.table.specs.Rules.{alphas_to}
use Rattle.table.proofs.RuleFacts.{all_or_none_is}
use Rattle.table.proofs.AlphaLaws.{holds_unless, some_only_is, AllOrNone, NeverRises, all_or_none_reads}
use Rattle.table.specs.Accepted.{GoodPair, GoodTask, Accepted}
use Rattle.line.specs.Stated.{UseFigures, held_pair}
use Rattle.meaning.specs.Figures.{TaskFigures, Figures, GoodUses, GoodTaskFigures, GoodAlpha, GoodTasks, alphas_of, GoodFigures, group_for, use_for, pair_for, task_of, task_for, table_of}
use Rattle.basics.proofs.RowLaws.{row_at}
use Rattle.meaning.proofs.AlphaLaws.{held_most, alpha_for, counted, falls}
use Rattle.meaning.proofs.PutRows.{picked}
use Rattle.meaning.proofs.GroupRows.{group_most}

good_pair : {C last sum : ℕ} {us : List UseFigures} (k : ℕ) → GoodUses C last sum us → (pair_for us k ≡ unused_pair) ⊎ GoodPair (pair_for us k)
good_pair k GoodUses.no_use = inl refl
good_pair k (GoodUses.one_use {u = u} {us = us} a b g f r) =
    picked (λ (v : UseFigures). (held_pair v ≡ unused_pair) ⊎ GoodPair (held_pair v)) (eqb u.K (suc k)) (inr g) (good_pair k r)

-- ---- the sum over the resources is at most the sum of the uses

abbrev total_for : List UseFigures → ℕ → ℕ
total_for us k = (use_for us k).CT.held

total_le : (u w : UseFigures) (k : ℕ) → 1 ≤ u.K → (pick (eqb u.K (suc k)) u w).CT.held ≤ only (eqb (u.K - 1) k) u.CT.held + w.CT.held
total_le u w k h = go (ℕ_discrete u.K (suc k))
  where
    go : Dec (u.K ≡ suc k) → (pick (eqb u.K (suc k)) u w).CT.held ≤ only (eqb (u.K - 1) k) u.CT.held + w.CT.held
    go (yes e) = rw (eq-eqb u.K (suc k) e, eq-eqb (u.K - 1) k (omega arith)) (omega arith)
    go (no n) = rw (ne_eqb u.K (suc k) n) (omega arith)

good_sum : {C last sum : ℕ} {us : List UseFigures} → GoodUses C last sum us → sum ≤ C → sum + sum_to max_resources (total_for us) ≤ C
good_sum GoodUses.no_use h = omega (arith, sum_bound max_resources 0 (total_for []) (λ k l. omega arith))
good_sum (GoodUses.one_use {u = u} {us = us} a b g f r) h =
    let alone = λ (k : ℕ). only (eqb (u.K - 1) k) u.CT.held in
    omega (
      arith,
      good_sum r f,
      sum_le max_resources (total_for (u ∷ us)) (λ (k : ℕ). alone k + total_for us k) (λ k l. total_le u (use_for us k) k (omega arith)),
      sum_add max_resources alone (total_for us),
      sum_single max_resources (u.K - 1) u.CT.held (omega arith),
    )

-- ---- tasks and the table

good_task : (x : TaskFigures) {last : ℕ} → GoodTaskFigures x → GoodAlpha last x.alpha → GoodTask (task_of x)
unfolding task_of
good_task x g a =
    record {
      times = g.times;
      alpha_most = held_most a;
      pair = λ k h. rw (row_at max_resources k (pair_for x.uses) unused_pair h) (good_pair k g.uses);
      totals = omega (
        arith,
        good_sum g.uses (omega arith),
        sum_eq max_resources (total_of (task_of x)) (total_for x.uses) (λ k h. ap (λ (p : Pair). p.total) (row_at max_resources k (pair_for x.uses) unused_pair h)),
      );
    }

good_tasks : {last : ℕ} {xs : List TaskFigures} (i : ℕ) → GoodTasks last xs → i < length xs → GoodTask (task_for xs i)
good_tasks i GoodTasks.no_tasks h = absurd (not-suc-le-zero h)
good_tasks zero (GoodTasks.one_task {x = x} g a r) h = good_task x g a
good_tasks (suc i) (GoodTasks.one_task g a r) h = good_tasks i r (omega arith)

module _ (f : Figures) (g : GoodFigures f) where
  task_at_lem : (i : ℕ) → i < length f.tasks → task_at (table_of f) i ≡ task_for f.tasks i
  unfolding table_of
  task_at_lem i h = row_at max_tasks i (task_for f.tasks) no_task (omega (arith, g.so_far.tasks_most))

  -- alpha for all tasks or none
  table_alphas : AllOrNone (table_of f)
  unfolding table_of
  table_alphas =
      let t = table_of f in
      let e : alphas_to t t.n ≡ alphas_of f.tasks =
      sum_eq (length f.tasks) _ _ (λ i h. ap (λ (x : Task). only (ltb 0 x.alpha) 1) (task_at_lem i h)) ∙ counted g.so_far.tasks in
      (all_or_none_reads t).0 ((holds_unless _ (some_only_is t)).0 (rw e ((all_or_none_is (alphas_of f.tasks) (length f.tasks)).1 g.alphas)))

  table_falls : NeverRises (table_of f)
  unfolding table_of
  table_falls i h =
      subst (λ (x : Task). alpha_at (table_of f) (suc i) ≤ x.alpha) (sym (task_at_lem i (omega arith)))
      (subst (λ (x : Task). x.alpha ≤ alpha_for f.tasks i) (sym (task_at_lem (suc i) h)) (go (ℕ_discrete (alpha_for f.tasks i) 0) (ℕ_discrete (alpha_for f.tasks (suc i)) 0)))
    where
      given : 1 ≤ alpha_for f.tasks (suc i) → 1 ≤ alpha_for f.tasks i
      given l =
          let a = table_alphas (suc i) i h (omega arith) (subst (λ (x : Task). 1 ≤ x.alpha) (sym (task_at_lem (suc i) h)) l) in
          subst (λ (x : Task). 1 ≤ x.alpha) (task_at_lem i (omega arith)) a

      go : Dec (alpha_for f.tasks i ≡ 0) → Dec (alpha_for f.tasks (suc i) ≡ 0) → alpha_for f.tasks (suc i) ≤ alpha_for f.tasks i
      go (no d) e = falls i g.so_far.tasks h (omega arith)
      go (yes d) (yes e) = omega arith
      go (yes d) (no e) = absurd (omega (arith, given (omega arith)))

pub good_table : (f : Figures) → GoodFigures f → Accepted (table_of f)
unfolding table_of
good_table f g =
    record {
      tasks_least = g.tasks_least;
      tasks_most = g.so_far.tasks_most;
      cpus_least = g.so_far.cpus_least;
      cpus_most = g.so_far.cpus_most;
      groups_most = λ k h. rw (row_at max_resources k (group_for f.groups) 0 h) (group_most k g.so_far.groups);
      all_or_none = table_alphas f g;
      never_rises = table_falls f g;
      task = λ i h. rw (row_at max_tasks i (task_for f.tasks) no_task (omega (arith, g.so_far.tasks_most))) (good_tasks i g.so_far.tasks h);
    }
