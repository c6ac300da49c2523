-- What is known where nothing is refused, how many records are written, and the row that the analysis leaves.
--     asked                     where nothing is said against the table, the task and the allowance, the table is fine and has that task, and a round is allowed
--     fits                      where nothing is said against the table and the row, the table is fine and has no more tasks than the row has records
--     allowed                   and a round at least is allowed
--     count_room, -most       at most as many records are written as the row has room for, and at most 32
--     count_asks              where a record is written, the table is fine and the record is one of its tasks'
--     count_fine              where nothing is said against the table and the row, the records of all tasks are written
--     row_fine, row_refused     the row then; and where anything is said, it is as it was
--     row_record                the record of each task that is written
--     row_past, row_long        past them the row is as it was, and it is as long as it was
-- Assumes nothing.
use mathlib.Core.Path.{◌≡◌, refl, ◌∙◌}
use Prim.Native.Nat.{ℕ, ◌≤◌, ◌<◌, zero-le}
use native.Mathlib.Nat.{not-suc-le-zero}
use native.Mathlib.Omega.{arith}
use mathlib.Core.List.{List, ◌++◌}
use borrow.Author.Tests.{leb-true}
use lib.ListN.{length, get_or, drop, get_or-append}
use lib.Seq.{drop_at}
use Rattle.basics.specs.Over.{join_to, row_to}
use Rattle.basics.proofs.ChoiceLaws.{within_true}
use Rattle.basics.proofs.RowLaws.{row_length, row_at, over_length}
use Rattle.table.specs.declared.Level.{Level}
use Rattle.table.specs.declared.Table.{Table}
use Rattle.table.specs.declared.Refusal.{Refusal}
use Rattle.table.specs.declared.Fault.TheVariants.{UnknownTask, TooShort, NoRounds}
use Rattle.table.specs.Faults.{Checked}
use Rattle.std.specs.Prelude.{Ok, Err}
use Rattle.table.specs.Limits.{max_tasks}
use Rattle.table.specs.Rules.{table_fault, asked_fault}
use Rattle.table.proofs.FirstLaws.{then_fine}
use Rattle.table.proofs.RuleLaws.{unless_fine}
use Rattle.table.proofs.Acceptance.{fine_accepted}
use Rattle.analysis.specs.declared.Record.{Record}
use Rattle.analysis.specs.Answers.{allowance_fault, bound_fault, analysis_fault, or_none, record_count, record_of, analysed}

-- ---- one task

-- nothing is said against the table, the task and the allowance
pub asked : (t : Table) (i : Level) (allowance : ℕ) → bound_fault t i allowance ≡ Ok tt → (table_fault t ≡ Ok tt) × (1 ≤ i.0) × (i.0 ≤ t.n) × (1 ≤ allowance)
unfolding bound_fault
asked t i allowance e =
    let p = then_fine (table_fault t) _ e in
    let q = then_fine (asked_fault t.n i) _ p.1 in
    let w = within_true 1 t.n i.0 (unless_fine _ UnknownTask 0 q.0) in
    (p.0, w.0, w.1, leb-true 1 allowance (unless_fine _ NoRounds 0 q.1))

-- ---- how many records are written

module _ (t : Table) (allowance room : ℕ) where
  -- nothing is said against the table and the row
  pub fits : analysis_fault t allowance room ≡ Ok tt → (table_fault t ≡ Ok tt) × (t.n ≤ room)
  unfolding analysis_fault
  fits e =
      let p = then_fine (table_fault t) _ e in
      let q = then_fine (allowance_fault allowance) _ p.1 in
      (p.0, leb-true t.n room (unless_fine _ TooShort 0 q.1))

  pub allowed : analysis_fault t allowance room ≡ Ok tt → 1 ≤ allowance
  unfolding analysis_fault
  allowed e = leb-true 1 allowance (unless_fine _ NoRounds 0 (then_fine (allowance_fault allowance) _ (then_fine (table_fault t) _ e).1).0)

  room_by : (a : Checked) → analysis_fault t allowance room ≡ a → or_none a t.n ≤ room
  room_by (Ok _) e = (fits e).1
  room_by (Err r) e = zero-le

  most_by : (a : Checked) → analysis_fault t allowance room ≡ a → or_none a t.n ≤ max_tasks
  most_by (Ok _) e = (fine_accepted t (fits e).0).tasks_most
  most_by (Err r) e = zero-le

  asks_by : (i : ℕ) (a : Checked) → analysis_fault t allowance room ≡ a → i < or_none a t.n → (table_fault t ≡ Ok tt) × (i < t.n)
  asks_by i (Ok _) e l = ((fits e).0, l)
  asks_by i (Err r) e l = absurd (not-suc-le-zero l)

  pub count_room : record_count t allowance room ≤ room
  unfolding record_count
  count_room = room_by (analysis_fault t allowance room) refl

  pub count_most : record_count t allowance room ≤ max_tasks
  unfolding record_count
  count_most = most_by (analysis_fault t allowance room) refl

  pub count_asks : (i : ℕ) → i < record_count t allowance room → (table_fault t ≡ Ok tt) × (i < t.n)
  unfolding record_count
  count_asks i l = asks_by i (analysis_fault t allowance room) refl l

  pub count_fine : analysis_fault t allowance room ≡ Ok tt → record_count t allowance room ≡ t.n
  unfolding record_count
  count_fine e = rw e

-- ---- the row that the analysis leaves

module _ (t : Table) (allowance : ℕ) (ys : List Record) where
  pub row_fine : analysis_fault t allowance (length ys) ≡ Ok tt → row_to t.n (record_of t allowance) ++ drop t.n ys ≡ analysed t allowance ys
  unfolding analysed record_count
  row_fine e = rw e

  pub row_refused : {r : Refusal} → analysis_fault t allowance (length ys) ≡ Err r → ys ≡ analysed t allowance ys
  unfolding analysed record_count join_to
  row_refused e = rw e

module _ (t : Table) (allowance : ℕ) (ys : List Record) where
  pub row_record : (i : ℕ) (d : Record) → i < record_count t allowance (length ys) → get_or (analysed t allowance ys) i d ≡ record_of t allowance i
  unfolding analysed
  row_record i d h =
      let w = record_count t allowance (length ys) in
      get_or-append (row_to w (record_of t allowance)) (drop w ys) d i (omega (arith, row_length w (record_of t allowance))) ∙ row_at w i (record_of t allowance) d h

  -- as the row is stored
  pub row_last : row_to (record_count t allowance (length ys)) (record_of t allowance) ++ drop (record_count t allowance (length ys)) ys ≡ analysed t allowance ys
  unfolding analysed
  row_last = refl

  pub row_past : drop (record_count t allowance (length ys)) (analysed t allowance ys) ≡ drop (record_count t allowance (length ys)) ys
  unfolding analysed
  row_past = drop_at (row_to (record_count t allowance (length ys)) (record_of t allowance)) _ _ (row_length _ (record_of t allowance))

  pub row_long : length (analysed t allowance ys) ≡ length ys
  unfolding analysed
  row_long = over_length (record_of t allowance) _ ys (count_room t allowance (length ys))
