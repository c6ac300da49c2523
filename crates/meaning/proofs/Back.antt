-- Reading what was written (specs/Back.antt).
-- Assumes nothing.
use Prim.Native.Nat.{ℕ, zero, suc}
use mathlib.Core.Path.{◌≡◌, ap, ◌∙◌}
use mathlib.Core.List.{List, [], ◌∷◌}
use native.Mathlib.Omega.{arith}
use lib.ListN.{length}
use lib.Dec.{ltb, leb-suc-suc}
use borrow.Author.Tests.{lt-ltb, le-ltb}
use Rattle.basics.specs.Choice.{pick}
use Rattle.basics.specs.Over.{row_to}
use Rattle.basics.proofs.JoinLaws.{join_eq}
use Rattle.table.specs.declared.Task.{Task}
use Rattle.table.specs.Limits.{max_tasks, max_resources}
use Rattle.table.specs.Empty.{unused_pair, empty_task}
use Rattle.table.specs.At.{no_task, task_at, group_at, pair_of, SameTask}
use Rattle.table.specs.Cleared.{cleared_task, cleared}
use Rattle.table.proofs.Acceptance.{fine_accepted}
use Rattle.table.specs.Answers.{accepted}
use Rattle.meaning.specs.Figures.{TaskFigures, Figures, group_for, pair_for, task_of, task_for, table_of}
use Rattle.writing.specs.Write.{pair_text, task_text, member_text, head_text, text_of}
use Rattle.writing.proofs.LongestText.{longest_text}
use Rattle.meaning.specs.Back.{TextFits, ReadsBack, Rewrites, SameText}
use Rattle.basics.proofs.RowLaws.{row_at, row_eq}
use Rattle.meaning.proofs.TableLaws.{table}
use Rattle.meaning.proofs.Meaning.{correct, complete, passes_check}
use Rattle.meaning.proofs.TextFigures.{text_states}

-- ---- how long a text is

pub text_fits : TextFits
text_fits t e = omega (arith, longest_text.most t e)

-- ---- the text is read as the table

pub reads_back : ReadsBack
reads_back t e =
    let r = text_states t (fine_accepted t e) in
    rw r.3 (complete (text_of t) r.0 (text_fits t e) r.1 r.2)

-- ---- a table that holds figures is clear already

task_clear : (x : TaskFigures) → cleared_task (task_of x) ≡ task_of x
unfolding cleared_task task_of
task_clear x = rw (row_eq max_resources (pair_of (task_of x)) (pair_for x.uses) (λ k h. row_at max_resources k (pair_for x.uses) unused_pair h))

tasks_clear : (xs : List TaskFigures) (i : ℕ) → pick (ltb i (length xs)) (cleared_task (task_for xs i)) empty_task ≡ task_for xs i
tasks_clear [] i = rw (le-ltb i 0 (omega arith))
tasks_clear (x ∷ xs) zero = rw (lt-ltb 0 (suc (length xs)) (omega arith)) (task_clear x)
tasks_clear (x ∷ xs) (suc i) = rw leb-suc-suc (tasks_clear xs i)

table_clear : (f : Figures) → cleared (table_of f) ≡ table_of f
unfolding cleared table_of
table_clear f =
    rw (row_eq max_resources (group_at (table_of f)) (group_for f.groups) (λ k h. row_at max_resources k (group_for f.groups) 0 h))
    (ap (table f.M (row_to max_resources (group_for f.groups)) (length f.tasks))
    (row_eq max_tasks _ _ (λ i h. rw (row_at max_tasks i (task_for f.tasks) no_task h) (tasks_clear f.tasks i))))

pub rewrites : Rewrites
rewrites s t q =
    let f = correct s t q in
    reads_back t (passes_check s t q) ∙ ap accepted (rw f.3 (table_clear f.0))

-- ---- tables that are the same

task_text_lem : (x y : Task) → SameTask x y → task_text x ≡ task_text y
unfolding task_text pair_text
task_text_lem x y s = rw (s.period, s.run, s.deadline, s.alpha, join_eq max_resources (pair_text x) (pair_text y) (λ k h. rw (s.pairs k h)))

pub same_text : SameText
unfolding text_of head_text member_text
same_text a b s =
    rw (s.cpus, join_eq max_resources (member_text a.groups) (member_text b.groups) (λ k h. rw (s.groups k h)), join_eq a.n (λ i. task_text (task_at a i)) (λ i. task_text (task_at b i)) (λ i h. task_text_lem (task_at a i) (task_at b i) (s.tasks i h)), s.n)
