-- What is answered of the waits of a table (request 8/12 of document 02): of one task, and of all.
use Rattle.std.specs.Prelude.{ℕ, pred, List, ltb, replicate, Option, Some, None, Result, Ok, Err}
use Rattle.basics.specs.Choice.{pick}
use Rattle.basics.specs.Over.{row_to}
use Rattle.table.specs.declared.Level.{Level}
use Rattle.table.specs.declared.Refusal.{Refusal}
use Rattle.table.specs.declared.Table.{Table}
use Rattle.table.specs.Limits.{max_tasks}
use Rattle.table.specs.At.{alpha_at}
use Rattle.table.specs.Faults.{Checked, ◌then◌}
use Rattle.table.specs.Rules.{has_alpha, table_fault, asked_fault}
use Rattle.theory.specs.View.{level}
use Rattle.theory.specs.Tables.{merged_view}
use Rattle.waits.specs.Wait.{wait_of}

-- the wait of task i, in microseconds, with its own alpha, by the merged pairs: "the alpha column read[s] the merged pairs" (9/12)
abbrev pub wait_in : Table → Level → ℕ
wait_in t i = wait_of (merged_view t) (alpha_at t (pred i.0)) i

-- ---- one task: the table's own refusals, then 10; then the wait, or none where the table has no alpha. It is given "for all tasks or none", so that the first task tells

unfoldable pub wait_fault : Table → Level → Checked
wait_fault t i = table_fault t then asked_fault t.n i

abbrev pub or_waiting : Checked → Option ℕ → Result (Option ℕ) Refusal
or_waiting (Ok _) w = Ok w
or_waiting (Err r) w = Err r

unfoldable pub wait_answer : Table → Level → Result (Option ℕ) Refusal
wait_answer t i = or_waiting (wait_fault t i) (pick (has_alpha t 0) (Some (wait_in t i)) None)

-- ---- all tasks

abbrev pub no_waits : List ℕ
no_waits = replicate max_tasks 0

-- of the task at slot i, and of all, 0 past them
abbrev pub slot_wait : Table → ℕ → ℕ
slot_wait t i = pick (ltb i t.n) (wait_in t (level i)) 0

abbrev pub waits_of : Table → List ℕ
waits_of t = row_to max_tasks (slot_wait t)

-- the table's own refusals; then the waits, or none where the table has no alpha
abbrev pub waits_after : Checked → Table → Result (Option (List ℕ)) Refusal
waits_after (Ok _) t = Ok (pick (has_alpha t 0) (Some (waits_of t)) None)
waits_after (Err r) t = Err r

unfoldable pub all_waits : Table → Result (Option (List ℕ)) Refusal
all_waits t = waits_after (table_fault t) t
