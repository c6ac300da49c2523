-- What the analysis answers: document 01, "Refusals by number" and "The analysis", and request 6/12 of document 02.
use Rattle.std.specs.Prelude.{ℕ, ◌≡◌, List, ◌++◌, length, drop, leb, Result, Ok, Err}
use Rattle.basics.specs.Over.{row_to}
use Rattle.table.specs.declared.Level.{Level}
use Rattle.table.specs.declared.Refusal.{Refusal}
use Rattle.table.specs.declared.Table.{Table}
use Rattle.table.specs.declared.Fault.TheVariants.{TooShort, NoRounds}
use Rattle.table.specs.Faults.{Checked}
use Rattle.table.specs.Faults.{◌then◌, unless}
use Rattle.table.specs.Rules.{table_fault, asked_fault}
use Rattle.theory.specs.declared.Verdict.TheVariants.{Meets}
use Rattle.theory.specs.declared.Counted.{Counted}
use Rattle.theory.specs.View.{View, level}
use Rattle.theory.specs.Tables.{merged_view, counted_by, counted_in}
use Rattle.analysis.specs.declared.Record.{Record}

-- ---- refusals that come after the table's own

-- 16: "allowance 0, place 0"
abbrev pub allowance_fault : ℕ → Checked
allowance_fault allowance = unless (leb 1 allowance) NoRounds 0

-- 11: "the row has fewer than n records"
abbrev pub row_fault : ℕ → ℕ → Checked
row_fault n room = unless (leb n room) TooShort 0

-- 16 comes "after 10 and before 11"
unfoldable pub bound_fault : Table → Level → ℕ → Checked
bound_fault t i allowance = table_fault t then asked_fault t.n i then allowance_fault allowance

unfoldable pub analysis_fault : Table → ℕ → ℕ → Checked
analysis_fault t allowance room = table_fault t then allowance_fault allowance then row_fault t.n room

-- ---- one task

-- the verdict and its rounds, or the refusal
abbrev pub Answer : Type 0
Answer = Result Counted Refusal

abbrev pub or_answer : Checked → Answer → Answer
or_answer (Ok _) b = b
or_answer (Err r) b = Err r

unfoldable pub bound_of : Table → Level → ℕ → Answer
bound_of t i allowance = or_answer (bound_fault t i allowance) (Ok (counted_in t allowance i))

-- ---- the row

-- how many records are written: "a refused .. analysis writes nothing"
abbrev pub or_none : Checked → ℕ → ℕ
or_none (Ok _) n = n
or_none (Err r) n = 0

unfoldable pub record_count : Table → ℕ → ℕ → ℕ
record_count t allowance room = or_none (analysis_fault t allowance room) t.n

-- "Each verdict record holds the task's number and its verdict", and its rounds: the allowance is "the same for each task by itself"
unfoldable pub record_by : View → ℕ → ℕ → Record
record_by v allowance i =
    let r = counted_by v allowance (level i) in
    record { task = level i; verdict = r.verdict; rounds = r.rounds }

-- of a table, by its merged pairs
abbrev pub record_of : Table → ℕ → ℕ → Record
record_of t allowance i = record_by (merged_view t) allowance i

-- a record of no task: what a row's reader has past its end, and what a row may hold before
abbrev pub no_record : Record
no_record = record { task = record { 0 = 0 }; verdict = Meets 0; rounds = 0 }

-- the row afterwards: "After success the .. records past the last one written are unchanged"
unfoldable pub analysed : Table → ℕ → List Record → List Record
analysed t allowance row =
    let n = record_count t allowance (length row) in
    row_to n (record_of t allowance) ++ drop n row

-- what `analyse` answers of a table, an allowance and a row, and what the row then holds
abbrev pub FillsRow : Table → ℕ → List Record → Checked → List Record → Type 0
FillsRow t allowance row answer after = (answer ≡ analysis_fault t allowance (length row)) × (after ≡ analysed t allowance row)
