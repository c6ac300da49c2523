-- The text that the programs `report` and `bench` print for a listing: document 01, "The report program", and requests 6/12 and 8/12 of document 02.
use Rattle.std.specs.Prelude.{ℕ, suc, ◌+◌, ◌*◌, Bool, true, false, List, [], ◌∷◌, ◌++◌, Option, Some, None, Ok, Err}
use Rattle.basics.specs.Over.{join_to}
use Rattle.basics.specs.Text.{bytes, ending}
use Rattle.table.specs.declared.Table.{Table}
use Rattle.table.specs.Faults.{Checked, ◌then◌}
use Rattle.table.specs.Answers.{answer_of, table_from}
use Rattle.table.specs.Limits.{max_tasks}
use Rattle.table.specs.Rules.{has_alpha}
use Rattle.put.specs.Text.{count_text}
use Rattle.refusal.specs.declared.Source.TheVariants.{Listing}
use Rattle.refusal.specs.Refusal.{refusal_text}
use Rattle.theory.specs.declared.Verdict.{Verdict}
use Rattle.theory.specs.declared.Verdict.TheVariants.{Meets, Misses, Open}
use Rattle.theory.specs.View.{level}
use Rattle.listing.specs.Read.{read_listing}
use Rattle.theory.specs.Tables.{counted_in}
use Rattle.analysis.specs.Answers.{analysis_fault}
use Rattle.waits.specs.Answers.{wait_in}
use Rattle.page.specs.declared.Columns.{Columns}
use Rattle.page.specs.declared.Columns.TheVariants.{Four, Five}

-- "`report` allows 10,000,000", as many as the longest time has microseconds, so that none of its verdicts is open; "a second program `bench`, else the same, allows 5"
unfoldable pub report_allowance : ℕ
report_allowance = 10_000_000

unfoldable pub bench_allowance : ℕ
bench_allowance = 5

-- ---- a row

-- "the bound in microseconds", or `-`
abbrev pub bound_text : Option ℕ → List ℕ
bound_text (Some t) = count_text t
bound_text None = bytes "-"

-- a row from its number, word, bound and rounds, and what more it has
unfoldable pub row_with : ℕ → List ℕ → Option ℕ → ℕ → List (List ℕ) → List ℕ
row_with number word bound rounds more = count_text number ++ ending (word ∷ bound_text bound ∷ count_text rounds ∷ more)

-- "for each task its number, `meets` and the bound in microseconds, or `misses` and `-`", or "`open`, printed with `-`"; and "a fourth column `rounds`"
unfoldable pub row_text : ℕ → Verdict → ℕ → List (List ℕ) → List ℕ
row_text number (Meets t) rounds more = row_with number (bytes "meets") (Some t) rounds more
row_text number Misses rounds more = row_with number (bytes "misses") None rounds more
row_text number Open rounds more = row_with number (bytes "open") None rounds more

-- request 8/12: "a fifth column `wait_us`, `-` without alpha", of the task at slot i. Alpha is given "for all tasks or none", so that the first task tells
abbrev pub wait_text : Bool → ℕ → List ℕ
wait_text true w = count_text w
wait_text false w = bytes "-"

-- of a page of four columns nothing
abbrev pub more_of : Columns → Table → ℕ → List (List ℕ)
more_of Four t i = []
more_of Five t i = wait_text (has_alpha t 0) (wait_in t (level i)) ∷ []

-- ---- the page

abbrev pub header : Columns → List ℕ
header Four = bytes "task verdict bound_us rounds\n"
header Five = bytes "task verdict bound_us rounds wait_us\n"

-- "Else a header", then n rows
unfoldable pub page_text : Columns → ℕ → (ℕ → List ℕ) → List ℕ
page_text columns n row = header columns ++ join_to n row

-- the most bytes that a row has, three numbers of up to ten digits, one of up to twenty, a word of up to six, four spaces and the LF; a header; and a page
abbrev pub max_row : ℕ
max_row = 61

abbrev pub max_header : ℕ
max_header = 37

abbrev pub max_page : ℕ
max_page = max_header + max_tasks * max_row

-- the row of the task at slot i, so many rounds being allowed
abbrev pub task_row : Columns → Table → ℕ → ℕ → List ℕ
task_row columns t allowance i = let r = counted_in t allowance (level i) in row_text (suc i) r.verdict r.rounds (more_of columns t i)

-- "Refused, it prints one line, as `refused 9 line 2`"
abbrev pub or_refusal : Checked → List ℕ → List ℕ
or_refusal (Ok _) text = text
or_refusal (Err r) text = refusal_text Listing r

-- the reading's refusal, or the analysis', or the verdicts, their rounds and, of a page of five columns, the waits
unfoldable pub report_text : Columns → ℕ → List ℕ → List ℕ
report_text columns allowance s =
    let r = read_listing s in
    let t = table_from r in
    or_refusal (answer_of r then analysis_fault t allowance max_tasks) (page_text columns t.n (task_row columns t allowance))

-- what each program prints: "`report` alone prints" the wait
abbrev pub report_prints : List ℕ → List ℕ
report_prints s = report_text Five report_allowance s

abbrev pub bench_prints : List ℕ → List ℕ
bench_prints s = report_text Four bench_allowance s
