-- The text that a program prints, from the page of a listing and the cells that it hands over, or from the refusal.
--     report_put, _told     what is put of the page of a listing, with the cells of its verdicts, is the report; and so is the line of its refusal
-- Assumes nothing.
use Rattle.std.proofs.Common.{◌≡◌, ℕ, ◌≤◌, ◌<◌, Bool, true, false, List, [], ◌∷◌, ◌++◌, length, drop, Option, Some, None, Ok, Err, refl, ap, ◌∙◌, arith}
use borrow.Author.Tests.{le-leb, lt-ltb}
use Rattle.basics.specs.Choice.{pick}
use Rattle.basics.specs.Text.{put_into}
use Rattle.basics.proofs.RowLaws.{row_at}
use Rattle.put.specs.Text.{put_length, put_answer}
use Rattle.table.specs.declared.Refusal.{Refusal}
use Rattle.table.specs.declared.Table.{Table}
use Rattle.table.specs.Limits.{max_tasks}
use Rattle.table.specs.Faults.{Checked, ◌then◌}
use Rattle.table.specs.Answers.{answer_of, table_from}
use Rattle.table.specs.Rules.{has_alpha, table_fault}
use Rattle.refusal.specs.declared.Source.TheVariants.{Listing}
use Rattle.refusal.specs.Refusal.{refusal_text}
use Rattle.refusal.proofs.LineLaws.{refusal_most}
use Rattle.theory.specs.View.{level}
use Rattle.listing.specs.Read.{read_listing}
use Rattle.table.proofs.FirstLaws.{then_fine}
use Rattle.table.proofs.Acceptance.{fine_accepted}
use Rattle.analysis.specs.Answers.{no_record, analysis_fault, record_by}
use Rattle.analysis.proofs.RowLaws.{fits, count_fine, row_record}
use Rattle.waits.specs.Answers.{wait_in, slot_wait, waits_of, all_waits}
use Rattle.page.specs.declared.Page.{Page}
use Rattle.page.specs.declared.Columns.{Columns}
use Rattle.page.specs.declared.Columns.TheVariants.{Four, Five}
use Rattle.page.specs.declared.Cells.{Cells}
use Rattle.page.specs.Report.{wait_text, more_of, page_text, max_page, task_row, report_text}
use Rattle.page.specs.Pages.{no_records, column_of, made_of, or_page, page_of, no_cells, all_cells, last_of, last_text, wait_at, last_at, cells_row, printed, fits_page, page_answer, page_into}
use Rattle.page.proofs.RowLaws.{row_verdict}
use Rattle.page.proofs.Reports.{page_eq}

module _ (t : Table) (columns : Columns) (allowance : ℕ) where
  -- what stands behind the rounds is the wait, where the table is accepted
  last_is : (i : ℕ) → table_fault t ≡ Ok tt → i < t.n → i < max_tasks → last_text (last_at (made_of t columns allowance) i) ≡ more_of columns t i
  unfolding all_waits
  last_is i e h l = go columns
    where
      five : (b : Bool) → last_text (last_of Five (wait_at (pick b (Some (waits_of t)) None) i)) ≡ wait_text b (wait_in t (level i)) ∷ []
      five true = rw (row_at max_tasks i (slot_wait t) 0 l, lt-ltb i t.n h)
      five false = refl

      go : (c : Columns) → last_text (last_of c (wait_at (column_of c t) i)) ≡ more_of c t i
      go Four = refl
      go Five = rw e (five (has_alpha t 0))

  -- the rows, where the analysis says nothing against the table
  rows_are : analysis_fault t allowance max_tasks ≡ Ok tt → let p = made_of t columns allowance in
      page_text columns t.n (cells_row p (all_cells p.rows)) ≡ page_text columns t.n (task_row columns t allowance)
  unfolding record_by
  rows_are e =
      page_eq columns t.n _ _ (λ i l.
      rw (
        row_at max_tasks i _ no_cells (omega (arith, (fits t allowance max_tasks e).1)),
        row_record t allowance no_records i no_record (omega (arith, count_fine t allowance max_tasks e)),
        last_is i (fits t allowance max_tasks e).0 l (omega (arith, (fits t allowance max_tasks e).1)),
      )
      (row_verdict _ _ _ _))

-- a page is that of a table that nothing is said against
record Made (s : List ℕ) (columns : Columns) (allowance : ℕ) (p : Page) : Type 0 where
  fine : ((answer_of (read_listing s)) then analysis_fault (table_from (read_listing s)) allowance max_tasks) ≡ Ok tt
  page : p ≡ made_of (table_from (read_listing s)) columns allowance

made : (s : List ℕ) (columns : Columns) (allowance : ℕ) {p : Page} → page_of s columns allowance ≡ Ok p → Made s columns allowance p
unfolding page_of
made s columns allowance {p} e = go _ refl e
  where
    m : Page
    m = made_of (table_from (read_listing s)) columns allowance

    go : (c : Checked) → ((answer_of (read_listing s)) then analysis_fault (table_from (read_listing s)) allowance max_tasks) ≡ c → or_page c m ≡ Ok p → Made s columns allowance p
    go (Ok _) f q = record { fine = f; page = cc }
    go (Err r) f q = let z : ◌≡◌ {A = ℕ} 0 1 = cc in absurd (omega arith)

told : (s : List ℕ) (columns : Columns) (allowance : ℕ) {f : Refusal} → page_of s columns allowance ≡ Err f
    → ((answer_of (read_listing s)) then analysis_fault (table_from (read_listing s)) allowance max_tasks) ≡ Err f
unfolding page_of
told s columns allowance {f} e = go _ refl e
  where
    go : (c : Checked) → ((answer_of (read_listing s)) then analysis_fault (table_from (read_listing s)) allowance max_tasks) ≡ c
        → or_page c (made_of (table_from (read_listing s)) columns allowance) ≡ Err f
        → ((answer_of (read_listing s)) then analysis_fault (table_from (read_listing s)) allowance max_tasks) ≡ Err f
    go (Ok _) x q = let z : ◌≡◌ {A = ℕ} 0 1 = cc in absurd (omega arith)
    go (Err r) x q = let y : r ≡ f = cc in x ∙ ap Err y

pub report_put : (s : List ℕ) (columns : Columns) (allowance : ℕ) (o : List ℕ) {p : Page} {cells : List Cells} {o₁ : List ℕ} {q : Option ℕ} {r : ℕ}
    → page_of s columns allowance ≡ Ok p → cells ≡ all_cells p.rows → max_page ≤ length o → r ≡ put_length q → q ≡ page_answer p cells o → o₁ ≡ page_into p cells o
    → (r ≡ length (report_text columns allowance s)) × (o₁ ≡ report_text columns allowance s ++ drop r o)
unfolding printed report_text
report_put s columns allowance o {p} {cells} {r = r} e g h n a w =
    let m = made s columns allowance e in
    let fine = (then_fine _ _ m.fine).1 in
    let most = (fine_accepted _ (fits _ _ _ fine).0).tasks_most in
    let text : printed p cells ≡ report_text columns allowance s = rw (g, m.page, m.fine) (rows_are (table_from (read_listing s)) columns allowance fine) in
    let f : fits_page p o ≡ true = rw (le-leb max_page (length o) h, m.page) (le-leb _ max_tasks most) in
    let z : r ≡ length (report_text columns allowance s) = rw (n, a, f, text) in
    (z, rw (w, f, text, z))

pub report_told : (s : List ℕ) (columns : Columns) (allowance : ℕ) (o : List ℕ) {f : Refusal} {o₁ : List ℕ} {q : Option ℕ} {r : ℕ}
    → page_of s columns allowance ≡ Err f → max_page ≤ length o → r ≡ put_length q → q ≡ put_answer (refusal_text Listing f) o → o₁ ≡ put_into (refusal_text Listing f) o
    → (r ≡ length (report_text columns allowance s)) × (o₁ ≡ report_text columns allowance s ++ drop r o)
unfolding report_text
report_told s columns allowance o {f} {o₁ = o₁} {r = r} e h n a w =
    let room = le-leb (length (refusal_text Listing f)) (length o) (omega (arith, refusal_most Listing f)) in
    let text : refusal_text Listing f ≡ report_text columns allowance s = rw (told s columns allowance e) in
    let z : r ≡ length (report_text columns allowance s) = rw (n, a, room, text) in
    let into : o₁ ≡ refusal_text Listing f ++ drop (length (refusal_text Listing f)) o = rw (w, room) in
    (z, rw (z, ← text) into)
