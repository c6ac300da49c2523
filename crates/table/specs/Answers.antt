-- What a reader and a writer of a table answer, be it a listing or an archive, and what a lent output then holds.
use Rattle.std.specs.Prelude.{ℕ, List, ◌++◌, length, drop, Result, Ok, Err}
use Rattle.table.specs.declared.Fault.{Fault}
use Rattle.table.specs.declared.Refusal.{Refusal}
use Rattle.table.specs.declared.Table.{Table}
use Rattle.table.specs.Faults.{Checked}
use Rattle.table.specs.Empty.{empty_table}

-- ---- a reader

-- the table that was read, or the refusal: "A refused reading gives no table"
abbrev pub Reading : Type 0
Reading = Result Table Refusal

abbrev pub not_read : Refusal → Reading
not_read r = Err r

abbrev pub refused : Fault → ℕ → Reading
refused fault place = not_read (record { fault = fault; place = place })

abbrev pub accepted : Table → Reading
accepted t = Ok t

abbrev pub or_table : Checked → Table → Reading
or_table (Ok _) t = accepted t
or_table (Err r) t = not_read r

-- what is said against what was read, and its table, with the empty one in place of none
abbrev pub answer_of : Reading → Checked
answer_of (Ok t) = Ok tt
answer_of (Err r) = Err r

abbrev pub table_from : Reading → Table
table_from (Ok t) = t
table_from (Err r) = empty_table

-- ---- a writer

-- how many bytes were written, or the refusal
abbrev pub Written : Type 0
Written = Result ℕ Refusal

abbrev pub or_wrote : Checked → ℕ → Written
or_wrote (Ok _) n = Ok n
or_wrote (Err r) n = Err r

-- "a refused writing .. writes nothing"; "after success the bytes .. past the last one written are unchanged"
abbrev pub or_text : Checked → List ℕ → List ℕ → List ℕ
or_text (Ok _) text out = text ++ drop (length text) out
or_text (Err r) text out = out
