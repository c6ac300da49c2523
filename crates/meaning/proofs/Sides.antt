-- Each figure of an accepted listing's table lies on its side of what was typed (specs/Sides.antt).
-- Assumes nothing.
use Prim.Native.Nat.{ℕ, zero, suc, ◌≤◌, ◌<◌}
use mathlib.Core.Path.{◌≡◌, refl, ap, ◌∙◌}
use mathlib.Core.List.{List, [], ◌∷◌}
use native.Mathlib.Omega.{arith}
use lib.ListN.{length, get_or}
use lib.Dec.{eqb}
use Rattle.basics.proofs.RowLaws.{row_at}
use Rattle.table.specs.declared.Task.{Task}
use Rattle.table.specs.Limits.{max_tasks, max_resources}
use Rattle.table.specs.Empty.{unused_pair}
use Rattle.table.specs.At.{no_task, task_at, pair_of}
use Rattle.field.specs.declared.Rounding.TheVariants.{Down, Up}
use Rattle.field.specs.Spelling.{RoundedTo}
use Rattle.field.proofs.RoundingLaws.{whole_to}
use Rattle.line.specs.Stated.{UseFigures, held_pair}
use Rattle.meaning.specs.Figures.{TaskFigures, no_figures, Figures, StatesUses, by_use_line, StatesTasks, by_task_line, StatesFigures, by_cpus_line, GoodFigures, use_for, pair_for, task_of, task_for, table_of}
use Rattle.meaning.specs.Sides.{task_figures, OnTheirSides, Sides}
use Rattle.meaning.proofs.PutRows.{picked}
use Rattle.meaning.proofs.Meaning.{correct}
use Rattle.meaning.proofs.OneReading.{unambiguous}

-- ---- what is stated lies on its side

record UseSides (u : UseFigures) : Type 0 where
  c : RoundedTo Up u.c.typed u.c.held
  CT : RoundedTo Up u.CT.typed u.CT.held

record TaskSides (x : TaskFigures) : Type 0 where
  T : RoundedTo Down x.T.typed x.T.held
  C : RoundedTo Up x.C.typed x.C.held
  D : RoundedTo Down x.D.typed x.D.held
  uses : (k : ℕ) → UseSides (use_for x.uses k)

uses_sides : {s : List ℕ} {us : List UseFigures} → StatesUses s us → (k : ℕ) → UseSides (use_for us k)
uses_sides StatesUses.no_use k = record { c = whole_to Up 0; CT = whole_to Up 0 }
uses_sides (by_use_line {u = u} {us} a r) k =
    picked UseSides (eqb u.K (suc k)) (record { c = a.longest.rounds; CT = a.total.rounds }) (uses_sides r k)

tasks_sides : {s : List ℕ} {xs : List TaskFigures} → StatesTasks s xs → (i : ℕ) → i < length xs → TaskSides (get_or xs i no_figures)
tasks_sides StatesTasks.no_tasks i h = absurd (omega arith)
tasks_sides (by_task_line a b p r) zero h = record { T = a.period.rounds; C = a.run.rounds; D = a.deadline.rounds; uses = uses_sides p }
tasks_sides (by_task_line a b p r) (suc i) h = tasks_sides r i (omega arith)

figures_sides : {s : List ℕ} {f : Figures} → StatesFigures s f → (i : ℕ) → i < length f.tasks → TaskSides (task_figures f i)
figures_sides (by_cpus_line a b r) i h = tasks_sides r i h

-- ---- and is what the table holds

task_for_lem : (xs : List TaskFigures) (i : ℕ) → i < length xs → task_for xs i ≡ task_of (get_or xs i no_figures)
task_for_lem [] i h = absurd (omega arith)
task_for_lem (x ∷ xs) zero h = refl
task_for_lem (x ∷ xs) (suc i) h = task_for_lem xs i (omega arith)

module _ (f : Figures) (few : length f.tasks ≤ max_tasks) (i : ℕ) (h : i < length f.tasks) where
  task_held : task_at (table_of f) i ≡ task_of (task_figures f i)
  unfolding table_of
  task_held = row_at max_tasks i (task_for f.tasks) no_task (omega arith) ∙ task_for_lem f.tasks i h

  pair_held : (k : ℕ) → k < max_resources → pair_of (task_at (table_of f) i) k ≡ held_pair (use_for (task_figures f i).uses k)
  unfolding task_of
  pair_held k l =
      ap (λ (x : Task). pair_of x k) task_held ∙ row_at max_resources k (pair_for (task_figures f i).uses) unused_pair l

on_their_sides : {s : List ℕ} (f : Figures) → StatesFigures s f → length f.tasks ≤ max_tasks → OnTheirSides (table_of f) f
unfolding table_of task_of
on_their_sides f states few =
    record {
      T = λ i h. rw (task_held f few i h) (figures_sides states i h).T;
      C = λ i h. rw (task_held f few i h) (figures_sides states i h).C;
      D = λ i h. rw (task_held f few i h) (figures_sides states i h).D;
      c = λ i k h l. rw (pair_held f few i h k l) ((figures_sides states i h).uses k).c;
      CT = λ i k h l. rw (pair_held f few i h k l) ((figures_sides states i h).uses k).CT;
    }

pub sides : Sides
sides s t f q states =
    let r = correct s t q in
    let e = unambiguous s r.0 f r.1 states in
    go (rw e at r.2) (rw e at r.3)
  where
    go : GoodFigures f → t ≡ table_of f → OnTheirSides t f
    go good e = rw e (on_their_sides f states good.so_far.tasks_most)
