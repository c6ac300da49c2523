-- What the reader's answer says of an archive.
-- Assumes nothing.
use Prim.Native.Nat.{ℕ, ◌<◌}
use mathlib.Core.Path.{◌≡◌, refl, ap, ◌∙◌}
use mathlib.Core.Bool.{Bool, true, false}
use mathlib.Core.List.{List}
use native.Mathlib.Omega.{arith}
use native.Mathlib.Decide.{dec_lt}
use lib.ListN.{length, get_or, get_or-replicate, get_or-eq_default}
use lib.Dec.{ltb}
use Rattle.basics.specs.Choice.{pick}
use Rattle.basics.specs.Over.{row_to}
use Rattle.basics.proofs.RowLaws.{row_length, row_at}
use Rattle.table.specs.declared.Fault.TheVariants.{BadLength}
use Rattle.table.specs.Faults.{Checked}
use Rattle.std.specs.Prelude.{Ok, Err}
use Rattle.table.specs.Answers.{answer_of, table_from}
use Rattle.table.specs.declared.Task.{Task}
use Rattle.table.specs.declared.Table.{Table}
use Rattle.table.specs.Limits.{max_tasks, max_resources}
use Rattle.table.specs.Empty.{empty_task}
use Rattle.table.specs.At.{no_task, NoAlpha, NoGroup}
use Rattle.table.specs.Faults.{unless}
use Rattle.table.specs.Rules.{table_fault}
use Rattle.table.specs.Answers.{accepted, or_table}
use Rattle.table.proofs.FirstLaws.{then_fine}
use Rattle.block.specs.Block.{task_in}
use Rattle.card.specs.Archive.{block_at, blocks_in, is_length, blocks_fault, table_in, archive_fault, read_archive}

pub answer_is : (a : List ℕ) → answer_of (read_archive a) ≡ archive_fault a
unfolding read_archive
answer_is a = go (archive_fault a)
  where
    go : (c : Checked) → answer_of (or_table c (table_in a)) ≡ c
    go (Ok _) = refl
    go (Err r) = refl

-- what is accepted has no fault, and is read as what it says
pub accepted_is : (a : List ℕ) (t : Table) → read_archive a ≡ accepted t → (archive_fault a ≡ Ok tt) × (table_in a ≡ t)
unfolding read_archive
accepted_is a t e = go (archive_fault a) refl e
  where
    go : (c : Checked) → archive_fault a ≡ c → or_table c (table_in a) ≡ accepted t → (c ≡ Ok tt) × (table_in a ≡ t)
    go (Ok _) f q = (refl, ap table_from q)
    go (Err r) f q = let e : Err r ≡ Ok tt = ap answer_of q in let z : ◌≡◌ {A = ℕ} 0 1 = cc in absurd (omega arith)

-- a card has no groups
pub card_ungrouped : (a : List ℕ) → NoGroup (table_in a)
unfolding table_in
card_ungrouped a k h = get_or-replicate max_resources k 0 0 h

-- and no alpha
task_none : (b : Bool) (s : List ℕ) → (pick b (task_in s) empty_task).alpha ≡ 0
unfolding task_in empty_task
task_none true s = refl
task_none false s = refl

pub card_none : (a : List ℕ) → NoAlpha (table_in a)
unfolding table_in
card_none a i h = go (dec_lt i max_tasks)
  where
    tasks : ℕ → Task
    tasks k = pick (ltb k (blocks_in a)) (task_in (block_at a k)) empty_task

    go : Dec (i < max_tasks) → (get_or (row_to max_tasks tasks) i no_task).alpha ≡ 0
    go (yes d) = ap (λ (x : Task). x.alpha) (row_at max_tasks i tasks no_task d) ∙ task_none (ltb i (blocks_in a)) (block_at a i)
    go (no d) = ap (λ (x : Task). x.alpha) (get_or-eq_default (row_to max_tasks tasks) no_task (omega (arith, row_length max_tasks tasks)))

-- the table's own refusals come last, so there are none
pub accepted_passes : (a : List ℕ) (t : Table) → read_archive a ≡ accepted t → table_fault t ≡ Ok tt
unfolding archive_fault
accepted_passes a t e =
    let p = accepted_is a t e in
    let q = then_fine (unless (is_length (length a)) BadLength 0) _ p.0 in
    rw p.1 at (then_fine (blocks_fault a) (table_fault (table_in a)) q.1).1
