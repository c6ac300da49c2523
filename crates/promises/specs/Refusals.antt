-- Demand 1: a refusal is given, with its number and place, exactly when its rule is the first that fails. It is said of what is answered (`Refuses c k p`: the answer c, be it of a check or of what gives a table, a verdict or a wait where nothing is refused, refuses with the number k, at the place p).
-- What is called for is said case by case, by bounds and not by the tests that decide: of a table in `table/specs/Refusals`, and here of what is asked after the table's own.
use Rattle.std.specs.Prelude.{ℕ, ◌*◌, ◌≤◌, ◌<◌, ◌≡◌, ◌⊎◌, List, length}
use Rattle.basics.specs.Exactly.{◌exactly_if◌}
use Rattle.table.specs.declared.Level.{Level}
use Rattle.table.specs.declared.Fault.{Fault}
use Rattle.table.specs.declared.Table.{Table}
use Rattle.table.specs.Faults.{number_of, Refuses}
use Rattle.table.specs.Limits.{max_resources}
use Rattle.table.specs.At.{group_at, NoGroup}
use Rattle.table.specs.Rules.{table_fault}
use Rattle.table.specs.Answers.{or_table}
use Rattle.table.specs.Accepted.{Accepted}
use Rattle.table.specs.Refusals.{InRange, CallsFor, RefusedAsCalled}
use Rattle.meaning.specs.Refusals.{RefusedAsCalled as ListingRefusedAsCalled}
use Rattle.writing.specs.Write.{text_of, write_answer}
use Rattle.block.specs.Block.{block_size}
use Rattle.card.specs.Archive.{archiving_answer}
use Rattle.release.specs.Refusals.{RefusedAsCalled as CardRefusedAsCalled}
use Rattle.salvaging.specs.Salvage.{salvage_answer}
use Rattle.recovery.specs.Refusals.{SalvagedAsCalled, CallsFor as SpoiledCallsFor}
use Rattle.theory.specs.Merge.{merged}
use Rattle.analysis.specs.Answers.{bound_of, analysis_fault}
use Rattle.waits.specs.Answers.{wait_answer, all_waits}

-- ---- after the table's own: "10 and 11 come after these, in that order, with place 0", and 16 "after 10 and before 11"

-- of a task that is asked about, with an allowance of rounds
pub data BoundCallsFor (t : Table) (i : Level) (allowance : ℕ) : ℕ → ℕ → Type 0 where
  -- the table's own
  own : {number place : ℕ} → CallsFor t number place → BoundCallsFor t i allowance number place
  -- "the task asked about is 0 or above n"
  unknown_task : Accepted t → (i.0 ≡ 0) ⊎ (t.n < i.0) → BoundCallsFor t i allowance 10 0
  -- "allowance 0"
  no_rounds : Accepted t → InRange 1 t.n i.0 → allowance ≡ 0 → BoundCallsFor t i allowance 16 0

-- of a task whose wait is asked for
pub data WaitCallsFor (t : Table) (i : Level) : ℕ → ℕ → Type 0 where
  own : {number place : ℕ} → CallsFor t number place → WaitCallsFor t i number place
  unknown_task : Accepted t → (i.0 ≡ 0) ⊎ (t.n < i.0) → WaitCallsFor t i 10 0

-- of a row with room for so many records
pub data RowCallsFor (t : Table) (allowance room : ℕ) : ℕ → ℕ → Type 0 where
  own : {number place : ℕ} → CallsFor t number place → RowCallsFor t allowance room number place
  no_rounds : Accepted t → allowance ≡ 0 → RowCallsFor t allowance room 16 0
  -- "the row has fewer than n records"
  too_short : Accepted t → 1 ≤ allowance → room < t.n → RowCallsFor t allowance room 11 0

-- of an output with room for so many bytes, where so many are to be written, of a listing
pub data OutputCallsFor (t : Table) (needed room : ℕ) : ℕ → ℕ → Type 0 where
  own : {number place : ℕ} → CallsFor t number place → OutputCallsFor t needed room number place
  -- "the output is shorter than the text needs"
  too_short : Accepted t → room < needed → OutputCallsFor t needed room 11 0

-- the same of an archive, before whose 11 "20, writing a table that has a group as a card archive of version 1" comes: some resource has one, used or not
pub data ArchivingCallsFor (t : Table) (room : ℕ) : ℕ → ℕ → Type 0 where
  own : {number place : ℕ} → CallsFor t number place → ArchivingCallsFor t room number place
  some_group : Accepted t → (k : ℕ) → k < max_resources → 1 ≤ group_at t k → ArchivingCallsFor t room 20 0
  -- "a writer whose output is shorter than 512 × n bytes gives 11 last"
  too_short : Accepted t → NoGroup t → room < block_size * t.n → ArchivingCallsFor t room 11 0

-- ---- refused exactly if it is called for: the answer is a refusal with this number, at this place

pub record FirstDecides : Type 0 where
  -- no two refusals have one number
  pub numbers : (a b : Fault) → number_of a ≡ number_of b → a ≡ b
  -- a table that is handed over
  pub table : RefusedAsCalled
  -- a listing, and a line of it
  pub listing : ListingRefusedAsCalled
  -- an archive: 12, 13 and 14, and then the table's own
  pub card : CardRefusedAsCalled
  -- a card with bad blocks: 15, 11 and 14, and then the table's own; and what becomes of each block
  pub salvage : SalvagedAsCalled
  pub salvage_written : (s : List ℕ) (entries room number place : ℕ)
      → Refuses (salvage_answer s entries room) number place exactly_if SpoiledCallsFor s entries room number place
  -- of what the analysis reads nothing but the table's own
  pub merge : (t : Table) (number place : ℕ) → Refuses (or_table (table_fault t) (merged t)) number place exactly_if CallsFor t number place
  -- after the table's own: of a task, of its wait, of a row, and of an output, be it for a listing or for an archive
  pub bound : (t : Table) (i : Level) (allowance number place : ℕ)
      → Refuses (bound_of t i allowance) number place exactly_if BoundCallsFor t i allowance number place
  pub wait : (t : Table) (i : Level) (number place : ℕ) → Refuses (wait_answer t i) number place exactly_if WaitCallsFor t i number place
  -- of all its tasks' waits nothing but the table's own
  pub waits : (t : Table) (number place : ℕ) → Refuses (all_waits t) number place exactly_if CallsFor t number place
  pub row : (t : Table) (allowance room number place : ℕ)
      → Refuses (analysis_fault t allowance room) number place exactly_if RowCallsFor t allowance room number place
  pub output : (t : Table) (room number place : ℕ)
      → Refuses (write_answer t room) number place exactly_if OutputCallsFor t (length (text_of t)) room number place
  pub archiving : (t : Table) (room number place : ℕ)
      → Refuses (archiving_answer t room) number place exactly_if ArchivingCallsFor t room number place
