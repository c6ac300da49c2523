-- The blocks left in the order of their numbers: the table that they say, and the blocks put one after the other.
-- Assumes nothing.
use Prim.Native.Nat.{ℕ, ◌+◌, ◌-◌, ◌*◌, ◌≤◌, ◌<◌, min}
use mathlib.Core.Path.{◌≡◌, refl, sym, ap, ◌∙◌}
use mathlib.Core.List.{List, [], ◌++◌}
use native.Mathlib.Omega.{arith}
use native.Mathlib.Decide.{dec_lt}
use borrow.Author.Tests.{lt-ltb, le-ltb, ltb-true}
use lib.ListN.{length, drop, set, replicate, length-append, length-replicate, length-drop}
use borrow.Rule.Slice.PartMut.{put_mid}
use lib.Seq.{length-take-le}
use lib.Dec.{ltb}
use Rattle.basics.specs.Choice.{pick}
use Rattle.basics.specs.Over.{join_to, row_to}
use Rattle.basics.proofs.ChoiceLaws.{pick_when}
use Rattle.basics.proofs.JoinLaws.{join_more, join_even}
use Rattle.basics.proofs.RowLaws.{row_eq, over_none, over_more, over_same}
use Rattle.basics.proofs.FillLaws.{rest_at, back_at, whole_part, rest_length, back_plain, Filled, filled_part}
use Rattle.table.specs.declared.Task.{Task}
use Rattle.table.specs.declared.Table.{Table}
use Rattle.table.specs.Limits.{max_tasks}
use Rattle.table.specs.Empty.{no_groups, empty_task, empty_table}
use Rattle.block.specs.Block.{head_in, task_in}
use Rattle.card.specs.Archive.{block_at, blocks_in, table_in}
use Rattle.release.proofs.Parts.{part_of_lem}
use Rattle.salvaging.specs.Salvage.{place_of, Placed, in_order}

-- a block that is there has its length
pub block_long : (s : List ℕ) (i : ℕ) → 512 * i + 512 ≤ length s → length (block_at s i) ≡ 512
block_long s i h = length-take-le 512 (drop (512 * i) s) (omega (arith, length-drop (512 * i) s))

-- the first n, if each has a place
module _ (s list : List ℕ) (n : ℕ) (l : 512 * length list ≤ length s) (h : Placed s list n) where
  abbrev pub numbered : ℕ → List ℕ
  numbered p = block_at s (place_of s list (p + 1))

  numbered_long : (p : ℕ) → p < n → length (numbered p) ≡ 512
  numbered_long p m = block_long s (place_of s list (p + 1)) (omega (arith, h p m))

  pub order_long : length (in_order s list n) ≡ 512 * n
  unfolding in_order
  order_long = join_even n 512 numbered numbered_long

  order_blocks : blocks_in (in_order s list n) ≡ n
  order_blocks = omega (arith, order_long)

  pub order_at : (p : ℕ) → p < n → block_at (in_order s list n) p ≡ numbered p
  unfolding in_order
  order_at p m = part_of_lem n p numbered numbered_long m

-- ---- the table

-- filled with the tasks of the first p
abbrev pub tasks_to : List ℕ → List ℕ → ℕ → List Task
tasks_to s list p = row_to p (λ j. task_in (block_at s (place_of s list (j + 1)))) ++ drop p (replicate max_tasks empty_task)

pub groups_start : {t : Table} → t ≡ empty_table → t.groups ≡ no_groups
unfolding empty_table
groups_start e = rw e

pub tasks_start : (s list : List ℕ) {t : Table} → t ≡ empty_table → t.tasks ≡ tasks_to s list 0
unfolding empty_table
tasks_start s list e = rw e (over_none (λ j. task_in (block_at s (place_of s list (j + 1)))) (replicate max_tasks empty_task))

pub tasks_more : (s list : List ℕ) (p : ℕ) {xs : List Task} → p < max_tasks → xs ≡ tasks_to s list p → set xs p (task_in (block_at s (place_of s list (p + 1)))) ≡ tasks_to s list (p + 1)
tasks_more s list p h e = rw e (over_more (λ j. task_in (block_at s (place_of s list (j + 1)))) p (replicate max_tasks empty_task) (omega (arith, length-replicate max_tasks empty_task)))

module _ (s list : List ℕ) (n : ℕ) (l : 512 * length list ≤ length s) (h : Placed s list n) where
  -- all of them, or as many as a table holds
  tasks_done : (p : ℕ) → p ≤ max_tasks → ((i : ℕ) → i < max_tasks → ltb i p ≡ ltb i n) → tasks_to s list p ≡ (table_in (in_order s list n)).tasks
  unfolding table_in
  tasks_done p m d =
      over_same (λ j. task_in (block_at s (place_of s list (j + 1)))) empty_task p max_tasks m
      ∙ rw (order_blocks s list n l h) (row_eq max_tasks (λ i. pick (ltb i p) (task_in (block_at s (place_of s list (i + 1)))) empty_task) (λ i. pick (ltb i n) (task_in (block_at (in_order s list n) i)) empty_task)
      (λ i k. rw (d i k) (pick_when empty_task (ltb i n) (λ q. ap task_in (sym (order_at s list n l h i (ltb-true i n q)))))))

  few : (i : ℕ) → i < max_tasks → ltb i (min n max_tasks) ≡ ltb i n
  few i k = go (dec_lt i n)
    where
      go : Dec (i < n) → ltb i (min n max_tasks) ≡ ltb i n
      go (yes d) = rw (lt-ltb i n d, lt-ltb i (min n max_tasks) (omega arith))
      go (no d) = rw (le-ltb i n (omega arith), le-ltb i (min n max_tasks) (omega arith))

  pub table_done : (p : ℕ) {t : Table} → p ≡ min n max_tasks → t.cpus ≡ (head_in (block_at (in_order s list n) 0)).cpus → t.n ≡ n → t.groups ≡ no_groups → t.tasks ≡ tasks_to s list p → t ≡ table_in (in_order s list n)
  unfolding table_in
  table_done p m e f z g =
      let done : tasks_to s list p ≡ (table_in (in_order s list n)).tasks = tasks_done p (omega (arith, m)) (λ i k. rw m (few i k)) in
      λ j. record { cpus = e j; n = (f ∙ sym (order_blocks s list n l h)) j; groups = z j; tasks = (g ∙ done) j }

-- ---- the blocks, put one after the other

pub order_none : (s list : List ℕ) → in_order s list 0 ≡ []
unfolding in_order join_to
order_none s list = refl

-- the next one, put at its place
pub block_next : (s list : List ℕ) (p : ℕ) {o o₁ x : List ℕ} → Filled o o₁ (in_order s list p) (512 * p) → 512 * p + 512 ≤ length o → length x ≡ 512 → x ≡ block_at s (place_of s list (p + 1))
    → Filled o (put_mid (512 * p) (512 * p + 512 - 512 * p) o₁ x) (in_order s list (p + 1)) (512 * (p + 1))
unfolding in_order
block_next s list p {o} {o₁} {x} q h n e =
    let a = 512 * p in
    let k : 512 * p + 512 - 512 * p ≡ 512 = omega arith in
    let m : 512 * (p + 1) ≡ 512 * p + 512 = omega arith in
    let ys = x ++ drop 512 (rest_at o₁ a) in
    let l : length ys ≡ length (rest_at o₁ a) = length-append x (drop 512 (rest_at o₁ a)) ∙ omega (arith, n, length-drop 512 (rest_at o₁ a), rest_length o₁ a, q.kept) in
    let f : put_mid a 512 o₁ x ≡ back_at o₁ a ys = rw (back_plain o₁ ys a, whole_part o₁ a) in
    rw (k, f, join_more, m, ← e) (filled_part q x (omega arith) (sym n) l refl)
