-- The tasks, stored one after another, and the table, stored line by line.
-- Assumes nothing.
use Prim.Native.Nat.{ℕ, zero, suc, ◌+◌, ◌-◌, ◌≤◌, ◌<◌}
use mathlib.Core.Path.{◌≡◌, refl, ap, ◌∙◌}
use mathlib.Core.List.{List, [], ◌∷◌}
use native.Mathlib.Omega.{arith}
use native.Mathlib.Nat.{zero-add, add-zero}
use lib.ListN.{length, get_or, set, replicate, length-set, get_or-replicate}
use lib.Seq.{get_or-set_same, get_or-set_other, set-set}
use Rattle.table.specs.declared.Pair.{Pair}
use Rattle.table.specs.declared.Task.{Task}
use Rattle.table.specs.declared.Table.{Table}
use Rattle.table.specs.declared.Resource.{Resource}
use Rattle.table.specs.Limits.{max_tasks}
use Rattle.table.specs.Empty.{empty_task, no_groups}
use Rattle.table.specs.At.{no_task, with_alpha}
use Rattle.line.specs.declared.Said.TheVariants.{Group, Alpha, Task as TaskLine, Use}
use Rattle.listing.specs.Read.{new_task, with_pair, table_after}
use Rattle.basics.specs.Over.{row_to}
use Rattle.line.specs.Stated.{UseFigures, held_pair}
use Rattle.meaning.specs.Figures.{AlphaFigure, no_alpha, alpha_of, TaskFigures, GroupFigures, GoodTaskFigures, GoodGroups, GoodTasks, held_alpha, task_of, task_for, table_of}
use Rattle.basics.proofs.RowLaws.{row_is}
use Rattle.meaning.proofs.PairRows.{put_pairs, pairs_stored}
use Rattle.meaning.proofs.GroupRows.{put_groups, groups_stored}

-- ---- the tasks, stored one after another

abbrev put_tasks : List Task → ℕ → List TaskFigures → List Task
put_tasks row i [] = row
put_tasks row i (x ∷ xs) = put_tasks (set row i (task_of x)) (i + 1) xs

puts_length : (row : List Task) (i : ℕ) (xs : List TaskFigures) → length (put_tasks row i xs) ≡ length row
puts_length row i [] = refl
puts_length row i (x ∷ xs) = puts_length (set row i (task_of x)) (i + 1) xs ∙ length-set row i (task_of x)

puts_low : (row : List Task) (i k : ℕ) (xs : List TaskFigures) → k < i → get_or (put_tasks row i xs) k no_task ≡ get_or row k no_task
puts_low row i k [] h = refl
puts_low row i k (x ∷ xs) h =
    puts_low (set row i (task_of x)) (i + 1) k xs (omega arith) ∙ get_or-set_other row i k (task_of x) no_task (λ q. omega arith)

puts_at : (row : List Task) (i j k : ℕ) (xs : List TaskFigures) → i + length xs ≤ length row → j ≡ i + k → get_or row j no_task ≡ empty_task
    → get_or (put_tasks row i xs) j no_task ≡ task_for xs k
puts_at row i j k [] l q e = e
puts_at row i j zero (x ∷ xs) l q e =
    let p : j ≡ i = omega arith in
    puts_low (set row i (task_of x)) (i + 1) j xs (omega arith) ∙ rw p (get_or-set_same row i (task_of x) no_task (omega arith))
puts_at row i j (suc k) (x ∷ xs) l q e =
    puts_at (set row i (task_of x)) (i + 1) j k xs (omega (arith, length-set row i (task_of x))) (omega arith)
    (get_or-set_other row i j (task_of x) no_task (λ z. omega arith) ∙ e)

tasks_stored : (xs : List TaskFigures) → length xs ≤ max_tasks → put_tasks (replicate max_tasks empty_task) 0 xs ≡ row_to max_tasks (task_for xs)
tasks_stored xs l =
    row_is max_tasks (task_for xs) no_task (put_tasks (replicate max_tasks empty_task) 0 xs) (puts_length (replicate max_tasks empty_task) 0 xs)
    (λ k h. puts_at (replicate max_tasks empty_task) 0 k k xs (omega arith) (omega arith) (get_or-replicate max_tasks k empty_task no_task h))

-- ---- the table, stored line by line

abbrev pub table : ℕ → List ℕ → ℕ → List Task → Table
table m groups n row = record { cpus = m; n = n; groups = groups; tasks = row }

-- before any task
abbrev pub store_groups : Table → List GroupFigures → Table
store_groups t [] = t
store_groups t (x ∷ xs) = store_groups (table_after t 0 (Group x.G (record { 0 = x.K }))) xs

heads_stored : (m : ℕ) (groups : List ℕ) (n : ℕ) (row : List Task) (xs : List GroupFigures)
    → store_groups (table m groups n row) xs ≡ table m (put_groups groups xs) n row
unfolding table_after
heads_stored m groups n row [] = refl
heads_stored m groups n row (x ∷ xs) = heads_stored m (set groups (x.K - 1) x.G) n row xs

-- after `tasks` tasks
abbrev pub store_uses : Table → ℕ → List UseFigures → Table
store_uses t tasks [] = t
store_uses t tasks (u ∷ us) = store_uses (table_after t tasks (Use (record { 0 = u.K }) (held_pair u))) tasks us

abbrev pub store_alpha : Table → ℕ → AlphaFigure → Table
store_alpha t tasks no_alpha = t
store_alpha t tasks (alpha_of A) = table_after t tasks (Alpha A)

abbrev pub store_tasks : Table → ℕ → List TaskFigures → Table
store_tasks t tasks [] = t
store_tasks t tasks (x ∷ xs) =
    let line = table_after t tasks (TaskLine x.T.held x.C.held x.D.held) in
    store_tasks (store_uses (store_alpha line (tasks + 1) x.alpha) (tasks + 1) x.uses) (tasks + 1) xs

abbrev with_pairs : Task → List Pair → Task
with_pairs x ps = record { period = x.period; run = x.run; deadline = x.deadline; alpha = x.alpha; pairs = ps }

module _ (m : ℕ) (groups : List ℕ) (n i : ℕ) (row : List Task) (h : i < length row) where
  use_stored : (x : Task) (K : Resource) (p : Pair) → table_after (table m groups n (set row i x)) (i + 1) (Use K p) ≡ table m groups n (set row i (with_pair x (K.0 - 1) p))
  unfolding table_after
  use_stored x K p =
      let e : i + 1 - 1 ≡ i = omega arith in
      rw (e, get_or-set_same row i x no_task h, set-set row i x (with_pair x (K.0 - 1) p))

  uses_stored : (x : Task) (us : List UseFigures) → store_uses (table m groups n (set row i x)) (i + 1) us ≡ table m groups n (set row i (with_pairs x (put_pairs x.pairs us)))
  uses_stored x [] = refl
  uses_stored x (u ∷ us) =
      ap (λ (t : Table). store_uses t (i + 1) us) (use_stored x (record { 0 = u.K }) (held_pair u)) ∙ uses_stored (with_pair x (u.K - 1) (held_pair u)) us

  alpha_stored : (T C D : ℕ) (a : AlphaFigure)
      → store_alpha (table m groups n (set row i (new_task T C D))) (i + 1) a ≡ table m groups n (set row i (with_alpha (held_alpha a) (new_task T C D)))
  unfolding table_after new_task
  alpha_stored T C D no_alpha = refl
  alpha_stored T C D (alpha_of A) =
      let e : i + 1 - 1 ≡ i = omega arith in
      rw (e, get_or-set_same row i (new_task T C D) no_task h, set-set row i (new_task T C D) (with_alpha A (new_task T C D)))

  task_stored : (x : TaskFigures) → GoodTaskFigures x
      → store_uses (store_alpha (table m groups n (set row i (new_task x.T.held x.C.held x.D.held))) (i + 1) x.alpha) (i + 1) x.uses ≡ table m groups n (set row i (task_of x))
  unfolding task_of new_task
  task_stored x g =
      let y = with_alpha (held_alpha x.alpha) (new_task x.T.held x.C.held x.D.held) in
      ap (λ (t : Table). store_uses t (i + 1) x.uses) (alpha_stored x.T.held x.C.held x.D.held x.alpha)
      ∙ uses_stored y x.uses ∙ rw (pairs_stored g.uses)

rows_stored : (m : ℕ) (groups : List ℕ) (i : ℕ) (row : List Task) {last : ℕ} {xs : List TaskFigures} → GoodTasks last xs → i + length xs ≤ length row
    → store_tasks (table m groups i row) i xs ≡ table m groups (i + length xs) (put_tasks row i xs)
unfolding table_after
rows_stored m groups i row GoodTasks.no_tasks l = rw add-zero
rows_stored m groups i row (GoodTasks.one_task {x = x} {xs} g a r) l =
    let e : i + suc (length xs) ≡ i + 1 + length xs = omega arith in
    ap (λ (t : Table). store_tasks t (i + 1) xs) (task_stored m groups (i + 1) i row (omega arith) x g)
    ∙ rw e (rows_stored m groups (i + 1) (set row i (task_of x)) r (omega (arith, length-set row i (task_of x))))

pub stored : (M : ℕ) {last : ℕ} {gs : List GroupFigures} {xs : List TaskFigures} → GoodGroups 0 gs → GoodTasks last xs → length xs ≤ max_tasks
    → store_tasks (store_groups (table M no_groups 0 (replicate max_tasks empty_task)) gs) 0 xs ≡ table_of (record { M = M; groups = gs; tasks = xs })
unfolding table_of
stored M {gs = gs} {xs} h g l =
    let row = replicate max_tasks empty_task in
    ap (λ (t : Table). store_tasks t 0 xs) (heads_stored M no_groups 0 row gs) ∙ rows_stored M (put_groups no_groups gs) 0 row g (omega arith)
    ∙ rw (zero-add, tasks_stored xs l, groups_stored h)
