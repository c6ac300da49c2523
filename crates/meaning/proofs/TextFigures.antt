-- The text of an accepted table states figures that obey the rules, and the table that holds them is the table itself, with zeros past
-- the nth task.
-- Assumes nothing.
use Prim.Native.Nat.{ℕ, zero, suc, ◌+◌, ◌≤◌, ◌<◌}
use mathlib.Core.Path.{◌≡◌, refl, sym, ◌∙◌}
use mathlib.Core.List.{List, [], ◌∷◌, ◌++◌, append_assoc}
use mathlib.Core.Logic.{◌⊎◌, inl, inr}
use native.Mathlib.Omega.{arith}
use native.Mathlib.Nat.{add-zero}
use lib.ListN.{length}
use lib.Dec.{ltb}
use borrow.Author.Tests.{lt-ltb, le-ltb}
use Rattle.basics.specs.Choice.{pick, only}
use Rattle.basics.specs.Over.{sum_to, join_to}
use Rattle.basics.proofs.SumLaws.{sum_rises}
use Rattle.basics.proofs.JoinLaws.{join_from}
use Rattle.table.specs.declared.Task.{Task}
use Rattle.table.specs.declared.Table.{Table}
use Rattle.table.specs.Limits.{max_tasks, max_resources, max_alpha}
use Rattle.table.specs.Empty.{unused_pair, empty_task}
use Rattle.table.specs.At.{task_at, alpha_at, group_at, pair_of, total_of}
use Rattle.table.specs.Rules.{alphas_to}
use Rattle.table.proofs.RuleFacts.{all_or_none_is}
use Rattle.table.proofs.AlphaLaws.{holds_unless, some_only_is, all_or_none_reads}
use Rattle.table.specs.Accepted.{GoodPair, GoodTask, Accepted}
use Rattle.field.specs.declared.Rounding.TheVariants.{Down, Up}
use Rattle.line.specs.Stated.{UseFigures, held_pair}
use Rattle.meaning.proofs.FieldBack.{count_text_lem, exactly, time_text_lem}
use Rattle.meaning.specs.Figures.{AlphaFigure, no_alpha, alpha_of, TaskFigures, Figures, StatesAlpha, no_alpha_line, by_alpha_line, StatesUses, StatesTasks, StatesFigures, by_cpus_line, GoodUses, GoodAlpha, last_with, GoodTasks, alpha_lines, alphas_of, GoodFigures, held_alpha, group_for, pair_for, task_of, task_for, table_of}
use Rattle.basics.specs.Text.{line_of}
use Rattle.put.specs.Text.{count_text}
use Rattle.writing.specs.Write.{use_text, pair_text, times_text, alpha_text, own_text, task_text, member_text, head_text, text_of}
use Rattle.writing.proofs.WriteLaws.{alpha_none, alpha_some}
use Rattle.table.specs.Cleared.{cleared_task, cleared}
use Rattle.basics.proofs.RowLaws.{row_eq}
use Rattle.meaning.proofs.PutRows.{Holds, holds_none, holds_skip, holds_more}
use Rattle.meaning.proofs.PairRows.{resource_of, pair_for_lem}
use Rattle.meaning.proofs.TextGroups.{groups_from}

-- ---- a task's uses

-- s states the uses of x from resource k + 1 on: they obey the rules after any uses of the resources before, and hold x's pairs
record UsesFrom (x : Task) (k : ℕ) (s : List ℕ) : Type 0 where
  uses : List UseFigures
  states : StatesUses s uses
  good : (last sum : ℕ) → last ≤ k → sum ≤ sum_to k (total_of x) → GoodUses x.run last sum uses
  holds : Holds resource_of held_pair unused_pair k uses (pair_of x)

module _ {x : Task} {k : ℕ} {s : List ℕ} (r : UsesFrom x (suc k) s) where
  -- a pair that is not in use is not written
  skip_use : pair_of x k ≡ unused_pair → UsesFrom x k s
  unfolding sum_to
  skip_use e =
      record {
        uses = r.uses;
        states = r.states;
        good = λ last sum a b. r.good last sum (omega arith) (omega arith);
        holds = holds_skip resource_of held_pair unused_pair r.holds e;
      }

  write_use : GoodTask x → k < max_resources → GoodPair (pair_of x k) → UsesFrom x k (use_text (suc k) (pair_of x k) ++ s)
  unfolding use_text sum_to
  write_use g h p =
      record {
        uses = u ∷ r.uses;
        states = StatesUses.by_use_line {u = u} (record { resource = count_text_lem _ (omega arith); requests = count_text_lem _ (omega arith); longest = time_text_lem Up _ (omega arith); total = time_text_lem Up _ (omega arith) }) r.states;
        good = λ last sum a b.
            GoodUses.one_use {last = last} {sum = sum} {u = u} (omega arith) h p (omega (arith, sum_rises (suc k) max_resources (total_of x) h, g.totals))
            (r.good _ _ (omega arith) (omega arith));
        holds = holds_more resource_of held_pair unused_pair r.holds u refl refl;
      }
    where
      u : UseFigures
      u = record { K = suc k; N = (pair_of x k).requests; c = exactly (pair_of x k).longest; CT = exactly (pair_of x k).total }

uses_from : (x : Task) → GoodTask x → UsesFrom x 0 (join_to max_resources (pair_text x))
unfolding pair_text
uses_from x g =
    join_from (UsesFrom x) max_resources (pair_text x) (λ k s h r. go k s h r (g.pair k h))
    (record { uses = []; states = StatesUses.no_use; good = λ last sum a b. GoodUses.no_use; holds = holds_none resource_of held_pair unused_pair (pair_of x) })
  where
    go : (k : ℕ) (s : List ℕ) → k < max_resources → UsesFrom x (suc k) s → (pair_of x k ≡ unused_pair) ⊎ GoodPair (pair_of x k) → UsesFrom x k (pair_text x k ++ s)
    go k s h r (inl e) = rw e (skip_use r e)
    go k s h r (inr p) = rw (lt-ltb 0 (pair_of x k).requests p.requests_least) (write_use r g h p)

-- ---- a task's alpha

figure_of : ℕ → AlphaFigure
figure_of zero = no_alpha
figure_of (suc A) = alpha_of (suc A)

figure_held : (A : ℕ) → held_alpha (figure_of A) ≡ A
unfolding figure_of
figure_held zero = refl
figure_held (suc A) = refl

figure_lines : (A : ℕ) → alpha_lines (figure_of A) ≡ only (ltb 0 A) 1
unfolding figure_of
figure_lines zero = refl
figure_lines (suc A) = rw (lt-ltb 0 (suc A) (omega arith))

figure_states : (A : ℕ) → A ≤ max_alpha → StatesAlpha (alpha_text A) (figure_of A)
unfolding figure_of
figure_states zero h = rw (alpha_none 0 refl) no_alpha_line
figure_states (suc A) h = rw (alpha_some (suc A) (λ e. omega arith)) (by_alpha_line (count_text_lem (suc A) (omega arith)))

figure_good : (last A : ℕ) → A ≤ max_alpha → (last ≡ 0) ⊎ (A ≤ last) → GoodAlpha last (figure_of A)
unfolding figure_of
figure_good last zero h f = GoodAlpha.not_given
figure_good last (suc A) h f = GoodAlpha.given {A = suc A} (omega arith) h f

-- what follows a task that has A, and is not above it, may follow
figure_next : (last A B : ℕ) → B ≤ A → (last_with last (figure_of A) ≡ 0) ⊎ (B ≤ last_with last (figure_of A))
unfolding figure_of
figure_next last zero B h = inr (omega arith)
figure_next last (suc A) B h = inr h

-- ---- the tasks

-- s states the tasks of t from task k + 1 on: they obey the rules, and make the tasks of `cleared t`
record TasksFrom (t : Table) (k : ℕ) (s : List ℕ) : Type 0 where
  tasks : List TaskFigures
  states : StatesTasks s tasks
  good : (last : ℕ) → (k < t.n → (last ≡ 0) ⊎ (alpha_at t k ≤ last)) → GoodTasks last tasks
  count : k + length tasks ≡ t.n
  alphas : alphas_to t k + alphas_of tasks ≡ alphas_to t t.n
  at : (i j : ℕ) → j ≡ k + i → task_for tasks i ≡ pick (ltb j t.n) (cleared_task (task_at t j)) empty_task

task_from : {t : Table} {k : ℕ} {s : List ℕ} → TasksFrom t (suc k) s → k < t.n → GoodTask (task_at t k) → (suc k < t.n → alpha_at t (suc k) ≤ alpha_at t k) → TasksFrom t k (task_text (task_at t k) ++ s)
unfolding task_text task_of cleared_task sum_to
task_from {t} {k} {s} r h g f =
    record {
      tasks = y ∷ r.tasks;
      states =
          rw (append_assoc (own_text x) (join_to max_resources (pair_text x)) s, append_assoc (times_text x) (alpha_text x.alpha) (join_to max_resources (pair_text x) ++ s))
          (StatesTasks.by_task_line {x = y} (record { period = time_text_lem Down _ (omega arith); run = time_text_lem Up _ (omega arith); deadline = time_text_lem Down _ (omega arith) }) (figure_states x.alpha g.alpha_most) w.states r.states);
      good = λ last e.
          GoodTasks.one_task (record { times = g.times; uses = w.good 0 0 (omega arith) (omega arith) }) (figure_good last x.alpha g.alpha_most (e h))
          (r.good (last_with last (figure_of x.alpha)) (λ l. figure_next last x.alpha (alpha_at t (suc k)) (f l)));
      count = omega arith;
      alphas = omega (arith, r.alphas, figure_lines x.alpha);
      at = at;
    }
  where
    x : Task
    x = task_at t k

    w : UsesFrom x 0 (join_to max_resources (pair_text x))
    w = uses_from x g

    y : TaskFigures
    y = record { T = exactly x.period; C = exactly x.run; D = exactly x.deadline; alpha = figure_of x.alpha; uses = w.uses }

    at : (i j : ℕ) → j ≡ k + i → task_for (y ∷ r.tasks) i ≡ pick (ltb j t.n) (cleared_task (task_at t j)) empty_task
    at zero j e =
        let q : j ≡ k = omega arith in
        rw (q, lt-ltb k t.n h, figure_held x.alpha, row_eq max_resources (pair_for w.uses) (pair_of x) (λ i l. sym (pair_for_lem w.uses i) ∙ w.holds.at i (omega arith) l))
    at (suc i) j e = r.at i j (omega arith)

tasks_from : (t : Table) → Accepted t → TasksFrom t 0 (join_to t.n (λ i. task_text (task_at t i)))
tasks_from t a =
    join_from (TasksFrom t) t.n (λ i. task_text (task_at t i)) (λ k s h r. task_from r h (a.task k h) (a.never_rises k))
    (record {
      tasks = [];
      states = StatesTasks.no_tasks;
      good = λ last e. GoodTasks.no_tasks;
      count = omega arith;
      alphas = add-zero (alphas_to t t.n);
      at = λ i j e. rw (le-ltb j t.n (omega arith));
    })

-- ---- the whole text

pub text_states : (t : Table) → Accepted t → (f : Figures) × StatesFigures (text_of t) f × GoodFigures f × (cleared t ≡ table_of f)
unfolding text_of head_text table_of cleared sum_to
text_states t a =
    let r = tasks_from t a in
    let h = groups_from t a in
    let e : t.n ≡ length r.tasks = omega arith in
    let b : alphas_to t t.n ≡ alphas_of r.tasks = omega (arith, r.alphas) in
    let c = (all_or_none_is (alphas_to t t.n) t.n).0 ((holds_unless _ (some_only_is t)).1 ((all_or_none_reads t).1 a.all_or_none)) in (
      record { M = t.cpus; groups = h.groups; tasks = r.tasks },
      rw (append_assoc (line_of "cpus" (count_text t.cpus ∷ [])) (join_to max_resources (member_text t.groups)) (join_to t.n (λ i. task_text (task_at t i))))
          (by_cpus_line (count_text_lem t.cpus (omega arith)) h.states r.states),
      record { so_far = record { cpus_least = a.cpus_least; cpus_most = a.cpus_most; groups = h.good 0 (omega arith); tasks_most = omega arith; tasks = r.good 0 (λ h. inl refl) }; tasks_least = omega arith; alphas = rw (← e, ← b) c },
      rw (← row_eq max_tasks (task_for r.tasks) _ (λ i h. r.at i i (omega arith)), ← row_eq max_resources (group_for h.groups) (group_at t) (λ k l. h.holds.at k (omega arith) l), ← e),
    )
