-- The table that is filled from the blocks of an archive, the blocks that are put, and a length of whole blocks.
-- Assumes nothing.
use Prim.Native.Nat.{ℕ, ◌+◌, ◌*◌, ◌/◌, ◌%◌, ◌≤◌, ◌<◌}
use mathlib.Core.Path.{◌≡◌, sym, ◌∙◌}
use mathlib.Core.List.{List, ◌++◌}
use native.Mathlib.Omega.{arith}
use lib.ListN.{length, set, take, drop, replicate, length-replicate}
use lib.Dec.{leb, eqb}
use borrow.Author.Tests.{le-leb, eqb-true}
use mathlib.Core.Bool.{true}
use Rattle.basics.specs.Choice.{within}
use Rattle.basics.specs.Over.{join_to, row_to}
use Rattle.basics.specs.Text.{put_into}
use Rattle.basics.proofs.RowLaws.{over_none, over_more, over_same}
use Rattle.basics.proofs.JoinLaws.{join_more, join_even}
use Rattle.basics.proofs.ChoiceLaws.{and_true, within_true}
use Rattle.basics.proofs.FillLaws.{rest_at, back_at, Filled, filled_part, rest_length}
use Rattle.table.specs.declared.Task.{Task}
use Rattle.table.specs.declared.Table.{Table}
use Rattle.table.specs.Limits.{max_tasks}
use Rattle.table.specs.Empty.{no_groups, empty_task, empty_table}
use Rattle.table.specs.At.{task_at}
use Rattle.block.specs.declared.Head.{Head}
use Rattle.block.specs.Block.{block_size, head_in, task_in}
use Rattle.block.proofs.BlockLaws.{block_length}
use Rattle.card.specs.Archive.{head_for, block_for, archive_of, is_length, block_at, blocks_in, table_in}

-- ---- the table, filled with the tasks of the first i blocks

module _ (a : List ℕ) where
  abbrev pub table_to : ℕ → Table
  table_to i =
      record {
        cpus = (head_in (block_at a 0)).cpus;
        n = blocks_in a;
        groups = no_groups;
        tasks = row_to i (λ j. task_in (block_at a j)) ++ drop i (replicate max_tasks empty_task);
      }

  pub table_start : {t : Table} {h : Head} → t ≡ empty_table → h ≡ head_in (take 512 a) → record { cpus = h.cpus; n = blocks_in a; groups = t.groups; tasks = t.tasks } ≡ table_to 0
  unfolding empty_table
  table_start e f = rw (e, f, ← over_none (λ j. task_in (block_at a j)) (replicate max_tasks empty_task))

  pub table_more : (i : ℕ) {t : Table} {x : Task} → i < max_tasks → t ≡ table_to i → x ≡ task_in (block_at a i)
      → record { cpus = t.cpus; n = t.n; groups = t.groups; tasks = set t.tasks i x } ≡ table_to (i + 1)
  table_more i h e f =
      rw (e, f, over_more (λ j. task_in (block_at a j)) i (replicate max_tasks empty_task) (omega (arith, length-replicate max_tasks empty_task)))

  pub table_done : blocks_in a ≤ max_tasks → table_to (blocks_in a) ≡ table_in a
  unfolding table_in
  table_done h = rw (over_same (λ j. task_in (block_at a j)) empty_task (blocks_in a) max_tasks h)

-- ---- the blocks of a table, put one after the other

module _ (t : Table) (i : ℕ) {o o₁ : List ℕ} (q : Filled o o₁ (join_to i (block_for t)) (512 * i)) (h : 512 * i + 512 ≤ length o) where
  pub block_next : {ys : List ℕ} → length ys ≡ length (rest_at o₁ (512 * i)) → ys ≡ put_into (block_for t i) (rest_at o₁ (512 * i))
      → Filled o (back_at o₁ (512 * i) ys) (join_to (i + 1) (block_for t)) (512 * (i + 1))
  block_next {ys} l e =
      let n : length (block_for t i) ≡ 512 = block_length _ _ in
      let r : leb (length (block_for t i)) (length (rest_at o₁ (512 * i))) ≡ true = le-leb (length (block_for t i)) (length (rest_at o₁ (512 * i))) (omega (arith, rest_length o₁ (512 * i), q.kept)) in
      let f : ys ≡ block_for t i ++ drop 512 (rest_at o₁ (512 * i)) = e ∙ rw (r, n) in
      let m : 512 * (i + 1) ≡ 512 * i + 512 = omega arith in
      rw (join_more, m) (filled_part q (block_for t i) (omega arith) (sym n) l f)

pub archive_length : (t : Table) → length (archive_of t) ≡ block_size * t.n
unfolding archive_of
archive_length t = join_even t.n 512 (block_for t) (λ i h. block_length (head_for t i) (task_at t i))

-- ---- a length of whole blocks

pub length_whole : (l : ℕ) → is_length l ≡ true → (l ≡ block_size * (l / block_size)) × (1 ≤ l / block_size) × (l / block_size ≤ max_tasks)
unfolding is_length
length_whole l e =
    let p = and_true (eqb (l % 512) 0) (within 1 max_tasks (l / 512)) e in
    let q = within_true 1 max_tasks (l / 512) p.1 in
    let r = eqb-true (l % 512) 0 p.0 in
    (omega arith, q.0, q.1)
