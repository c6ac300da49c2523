-- The report on an accepted listing is the page of its table: the analysis has nothing against a table that was read.
-- Assumes nothing.
use Prim.Native.Nat.{ℕ, ◌≤◌}
use mathlib.Core.Path.{◌≡◌, ap, ◌∙◌}
use mathlib.Core.List.{List}
use borrow.Author.Tests.{le-leb}
use Rattle.table.specs.declared.Table.{Table}
use Rattle.table.specs.Limits.{max_tasks}
use Rattle.table.specs.Faults.{◌then◌}
use Rattle.table.proofs.Acceptance.{fine_accepted}
use Rattle.table.specs.Answers.{Reading, accepted, answer_of, table_from}
use Rattle.listing.specs.Read.{read_listing}
use Rattle.analysis.specs.Answers.{analysis_fault}
use Rattle.page.specs.declared.Columns.{Columns}
use Rattle.page.specs.Report.{or_refusal, page_text, task_row, report_text}
use Rattle.meaning.proofs.Meaning.{passes_check}

pub report_accepted : (columns : Columns) (allowance : ℕ) (s : List ℕ) (t : Table) → 1 ≤ allowance → read_listing s ≡ accepted t → report_text columns allowance s ≡ page_text columns t.n (task_row columns t allowance)
unfolding report_text analysis_fault
report_accepted columns allowance s t h e =
    let f = passes_check s t e in
    ap (λ (r : Reading). let t = table_from r in or_refusal (answer_of r then analysis_fault t allowance max_tasks) (page_text columns t.n (task_row columns t allowance))) e
    ∙ rw (f, le-leb 1 allowance h, le-leb t.n max_tasks (fine_accepted t f).tasks_most)
