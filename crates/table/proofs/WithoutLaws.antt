-- A table without its alphas: its tasks, that it is accepted with the table, and that a table that has none is the same.
-- Assumes nothing.
use Prim.Native.Nat.{ℕ, suc}
use mathlib.Core.Path.{◌≡◌, refl, sym, ap, ◌∙◌}
use mathlib.Core.Bool.{Bool, true, false}
use mathlib.Core.List.{List}
use native.Mathlib.Omega.{arith}
use borrow.Author.Tests.{ltb-true}
use lib.ListN.{get_or-map}
use lib.Dec.{ltb}
use Rattle.basics.specs.Choice.{pick}
use Rattle.basics.specs.Over.{row_to}
use Rattle.basics.proofs.RowLaws.{row_eq}
use Rattle.table.specs.declared.Task.{Task}
use Rattle.table.specs.declared.Table.{Table}
use Rattle.std.specs.Prelude.{Ok}
use Rattle.table.specs.Limits.{max_tasks, max_resources}
use Rattle.table.specs.Empty.{empty_task}
use Rattle.table.specs.At.{no_task, with_alpha, task_at, group_at, NoAlpha, SameTask, Same}
use Rattle.table.specs.Rules.{table_fault}
use Rattle.table.specs.Accepted.{GoodTask}
use Rattle.table.specs.Cleared.{cleared_task, cleared}
use Rattle.table.specs.Without.{without_alpha, SameButAlpha}
use Rattle.table.proofs.Acceptance.{fine_accepted, accepted_fine}

pub without_at : (t : Table) (i : ℕ) → task_at (without_alpha t) i ≡ with_alpha 0 (task_at t i)
unfolding without_alpha
without_at t i = get_or-map (with_alpha 0) t.tasks i no_task

pub without_none : (t : Table) → NoAlpha (without_alpha t)
without_none t i h = ap (λ (x : Task). x.alpha) (without_at t i)

good_without : {x : Task} → GoodTask x → GoodTask (with_alpha 0 x)
good_without g = record { times = g.times; alpha_most = omega arith; pair = g.pair; totals = g.totals }

pub without_fine : (t : Table) → table_fault t ≡ Ok tt → table_fault (without_alpha t) ≡ Ok tt
unfolding without_alpha
without_fine t e =
    let a = fine_accepted t e in
    accepted_fine (without_alpha t)
    (record {
      tasks_least = a.tasks_least;
      tasks_most = a.tasks_most;
      cpus_least = a.cpus_least;
      cpus_most = a.cpus_most;
      groups_most = a.groups_most;
      all_or_none = λ i j h k l. absurd (omega (arith, without_none t i h));
      never_rises = λ i h. omega (arith, without_none t (suc i) h);
      task = λ i h. rw (without_at t i) (good_without (a.task i h));
    })

-- a table that has none
none_with : (x : Task) → x.alpha ≡ 0 → with_alpha 0 x ≡ x
none_with x e = λ j. record { period = x.period; run = x.run; deadline = x.deadline; alpha = sym e j; pairs = x.pairs }

pub none_cleared : (t : Table) → NoAlpha t → cleared (without_alpha t) ≡ cleared t
unfolding cleared without_alpha
none_cleared t z =
    let e = row_eq max_tasks (λ i. pick (ltb i t.n) (cleared_task (task_at (without_alpha t) i)) empty_task) (λ i. pick (ltb i t.n) (cleared_task (task_at t i)) empty_task)
    (λ i h. go i (ltb i t.n) refl) in
    ap (λ (row : List Task). record { cpus = t.cpus; n = t.n; groups = row_to max_resources (group_at t); tasks = row }) e
  where
    go : (i : ℕ) (b : Bool) → ltb i t.n ≡ b → pick b (cleared_task (task_at (without_alpha t) i)) empty_task ≡ pick b (cleared_task (task_at t i)) empty_task
    go i true e = ap cleared_task (without_at t i ∙ none_with (task_at t i) (z i (ltb-true i t.n e)))
    go i false e = refl

-- ---- two tables that differ in alpha alone

but_task : (x y : Task) → SameTask x y → SameTask (with_alpha 0 x) (with_alpha 0 y)
but_task x y s = record { period = s.period; run = s.run; deadline = s.deadline; alpha = refl; pairs = s.pairs }

pub same_but : (a b : Table) → Same a b → SameButAlpha a b
unfolding without_alpha
same_but a b s =
    record { cpus = s.cpus; n = s.n; groups = s.groups; tasks = λ i h. rw (without_at a i, without_at b i) (but_task (task_at a i) (task_at b i) (s.tasks i h)) }
