-- What a page is made from: the records of a listing's tasks, and the cells of their verdicts; or the refusal. Cited by the contracts of `page_of`, `put_page` and private functions alone:
-- what the programs print is proved to be `report_text` of Report, which names nothing of this file.
use Rattle.std.specs.Prelude.{ℕ, Bool, ◌&&◌, List, [], ◌∷◌, ◌++◌, length, get_or, drop, replicate, leb, Option, Some, None, Result, Ok, Err}
use Rattle.basics.specs.Choice.{pick}
use Rattle.basics.specs.Over.{row_to}
use Rattle.basics.specs.Text.{bytes}
use Rattle.put.specs.Text.{count_text}
use Rattle.table.specs.declared.Refusal.{Refusal}
use Rattle.table.specs.declared.Table.{Table}
use Rattle.table.specs.Faults.{Checked, ◌then◌}
use Rattle.table.specs.Answers.{answer_of, table_from}
use Rattle.table.specs.Limits.{max_tasks}
use Rattle.listing.specs.Read.{read_listing}
use Rattle.theory.specs.declared.Verdict.{Verdict}
use Rattle.theory.specs.declared.Verdict.TheVariants.{Meets, Misses, Open}
use Rattle.analysis.specs.declared.Record.{Record}
use Rattle.analysis.specs.Answers.{no_record, analysis_fault, analysed}
use Rattle.waits.specs.Answers.{all_waits}
use Rattle.page.specs.declared.Page.{Page}
use Rattle.page.specs.declared.Columns.{Columns}
use Rattle.page.specs.declared.Columns.TheVariants.{Four, Five}
use Rattle.page.specs.declared.Last.{Last}
use Rattle.page.specs.declared.Last.TheVariants.{Nothing, Dash as NoWait, Of as OfWait}
use Rattle.page.specs.declared.Word.{Word}
use Rattle.page.specs.declared.Word.TheVariants.{Meets as SaysMeets, Misses as SaysMisses, Open as SaysOpen}
use Rattle.page.specs.declared.Cells.{Cells}
use Rattle.page.specs.Report.{max_page, row_with, page_text}

-- ---- the page of a listing

-- a row with no record yet
abbrev pub no_records : List Record
no_records = replicate max_tasks no_record

-- the waits that a page has: of a page of five columns what `wait_all` answers, if it answers any
abbrev pub if_given : Result (Option (List ℕ)) Refusal → Option (List ℕ)
if_given (Ok waits) = waits
if_given (Err r) = None

abbrev pub column_of : Columns → Table → Option (List ℕ)
column_of Four t = None
column_of Five t = if_given (all_waits t)

-- of a table that was read: the number of tasks, the record of each, and the waits
abbrev pub made_of : Table → Columns → ℕ → Page
made_of t columns allowance = record { n = t.n; rows = analysed t allowance no_records; columns = columns; waits = column_of columns t }

abbrev pub or_page : Checked → Page → Result Page Refusal
or_page (Ok _) p = Ok p
or_page (Err r) p = Err r

-- what `page_of` answers: the reading's refusal, or the analysis', or the page
unfoldable pub page_of : List ℕ → Columns → ℕ → Result Page Refusal
page_of s columns allowance =
    let r = read_listing s in
    let t = table_from r in
    or_page (answer_of r then analysis_fault t allowance max_tasks) (made_of t columns allowance)

-- ---- cells: what stands for a verdict in a row

abbrev pub cells_of : Verdict → Cells
cells_of (Meets t) = record { 0 = SaysMeets; 1 = Some t }
cells_of Misses = record { 0 = SaysMisses; 1 = None }
cells_of Open = record { 0 = SaysOpen; 1 = None }

-- what the checker reads past a row's end
abbrev pub no_cells : Cells
no_cells = record { 0 = SaysMeets; 1 = None }

-- for the record at slot i, and for all
abbrev pub cells_at : List Record → ℕ → Cells
cells_at rows i = cells_of (get_or rows i no_record).verdict

abbrev pub all_cells : List Record → List Cells
all_cells rows = row_to max_tasks (cells_at rows)

-- ---- what is put of a page and cells

abbrev pub word_text : Word → List ℕ
word_text SaysMeets = bytes "meets"
word_text SaysMisses = bytes "misses"
word_text SaysOpen = bytes "open"

-- ---- what stands behind the rounds

abbrev pub last_of : Columns → Option ℕ → Last
last_of Four wait = Nothing
last_of Five (Some us) = OfWait us
last_of Five None = NoWait

abbrev pub last_text : Last → List (List ℕ)
last_text Nothing = []
last_text NoWait = bytes "-" ∷ []
last_text (OfWait wait) = count_text wait ∷ []

-- with the space before it
abbrev pub spaced_last : Last → List ℕ
spaced_last Nothing = []
spaced_last NoWait = 32 ∷ bytes "-"
spaced_last (OfWait wait) = 32 ∷ count_text wait

-- the row of a record with its cells and what stands behind, and of those at slot i
abbrev pub row_of : Record → Cells → Last → List ℕ
row_of x c last = row_with x.task.0 (word_text c.0) c.1 x.rounds (last_text last)

abbrev pub wait_at : Option (List ℕ) → ℕ → Option ℕ
wait_at (Some waits) i = Some (get_or waits i 0)
wait_at None i = None

abbrev pub last_at : Page → ℕ → Last
last_at p i = last_of p.columns (wait_at p.waits i)

abbrev pub cells_row : Page → List Cells → ℕ → List ℕ
cells_row p cells i = row_of (get_or p.rows i no_record) (get_or cells i no_cells) (last_at p i)

-- the header and the rows
unfoldable pub printed : Page → List Cells → List ℕ
printed p cells = page_text p.columns p.n (cells_row p cells)

-- an output has room for the longest page, and there is a record for each row
abbrev pub fits_page : Page → List ℕ → Bool
fits_page p out = leb max_page (length out) && leb p.n max_tasks

-- what `put_page` answers of an output that holds `out`, and what that then holds: the text at its start, or what was there
abbrev pub page_answer : Page → List Cells → List ℕ → Option ℕ
page_answer p cells out = pick (fits_page p out) (Some (length (printed p cells))) None

abbrev pub page_into : Page → List Cells → List ℕ → List ℕ
page_into p cells out = pick (fits_page p out) (printed p cells ++ drop (length (printed p cells)) out) out
