-- The waits by the merged pairs of an accepted table are its own; of a table whose first task has no alpha there are none; and the wait of a task that can be asked about is that of its slot.
-- Assumes nothing.
use Rattle.std.proofs.Common.{◌≡◌, ℕ, suc, ◌-◌, ◌<◌, Bool, true, false, List, get_or, Option, None, Result, Ok, Err, refl, ap, ◌∙◌, arith}
use borrow.Author.Tests.{ltb-true, lt-ltb}
use lib.Dec.{ltb}
use Rattle.basics.specs.Choice.{pick}
use Rattle.basics.proofs.ChoiceLaws.{within_true}
use Rattle.basics.proofs.RowLaws.{row_at, row_eq}
use Rattle.table.specs.declared.Fault.TheVariants.{UnknownTask}
use Rattle.table.specs.declared.Level.{Level}
use Rattle.table.specs.declared.Refusal.{Refusal}
use Rattle.table.specs.declared.Table.{Table}
use Rattle.table.specs.Faults.{Checked}
use Rattle.table.specs.Limits.{max_tasks}
use Rattle.table.specs.At.{alpha_at}
use Rattle.table.specs.Rules.{has_alpha, table_fault, asked_fault}
use Rattle.table.proofs.RuleLaws.{unless_fine}
use Rattle.table.proofs.Acceptance.{fine_accepted}
use Rattle.theory.specs.View.{level}
use Rattle.theory.specs.Tables.{merged_view}
use Rattle.theory.specs.Merge.{merged}
use Rattle.theory.proofs.MergeLaws.{merged_task_lem}
use Rattle.waits.specs.Wait.{wait_of}
use Rattle.waits.specs.Answers.{wait_in, slot_wait, waits_of, waits_after, all_waits}
use Rattle.waits.specs.Kept.{slot_wait_by, waits_by}

pub waits_merged : (t : Table) → waits_by (merged t) ≡ waits_of t
waits_merged t = row_eq max_tasks (slot_wait_by (merged t)) (slot_wait t) (λ i l. go i l (ltb i t.n) refl)
  where
    go : (i : ℕ) → i < max_tasks → (b : Bool) → ltb i t.n ≡ b
        → pick b (wait_of (merged_view t) (alpha_at (merged t) i) (level i)) 0 ≡ pick b (wait_of (merged_view t) (alpha_at t i) (level i)) 0
    go i l true h = ap (λ (A : ℕ). wait_of (merged_view t) A (level i)) (merged_task_lem t i (ltb-true i t.n h) l).alpha
    go i l false h = refl

-- what is the same of no waits and of a refusal is so of a table whose first task has no alpha, be it accepted or not
pub none_all : {A : Type 0} (t : Table) (f : Result (Option (List ℕ)) Refusal → A) (a : A) → f (Ok None) ≡ a → ((r : Refusal) → f (Err r) ≡ a) → has_alpha t 0 ≡ false
    → f (all_waits t) ≡ a
unfolding all_waits
none_all t f a fine refused e = go (table_fault t)
  where
    go : (c : Checked) → f (waits_after c t) ≡ a
    go (Ok _) = rw e fine
    go (Err r) = refused r

-- a task that can be asked about
pub record Asked (t : Table) (task : Level) : Type 0 where
  pub least : 0 < task.0
  pub slot : task.0 - 1 < t.n
  pub most : task.0 - 1 < max_tasks

pub asked_fine : (t : Table) (task : Level) → table_fault t ≡ Ok tt → asked_fault t.n task ≡ Ok tt → Asked t task
asked_fine t task f e =
    let w = within_true 1 t.n task.0 (unless_fine _ UnknownTask 0 e) in
    record { least = w.0; slot = omega arith; most = omega (arith, (fine_accepted t f).tasks_most) }

-- its wait is that of its slot
pub wait_at : (t : Table) (task : Level) → Asked t task → get_or (waits_of t) (task.0 - 1) 0 ≡ wait_in t task
wait_at t task a =
    let n : suc (task.0 - 1) ≡ task.0 = omega (arith, a.least) in
    let l : level (task.0 - 1) ≡ task = λ j. record { 0 = n j } in
    row_at max_tasks (task.0 - 1) (slot_wait t) 0 a.most ∙ rw (lt-ltb (task.0 - 1) t.n a.slot) (ap (wait_in t) l)
