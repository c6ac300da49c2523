-- Demand 2: the verdict on a task, and the figures of a listing.
use Rattle.std.specs.Prelude.{ℕ, ◌≤◌, ◌<◌, ◌≡◌, List, length, get_or, drop, Ok}
use Rattle.table.specs.declared.Table.{Table}
use Rattle.table.specs.Rules.{table_fault}
use Rattle.table.specs.Cleared.{ClearedSame}
use Rattle.theory.specs.declared.Verdict.{Verdict}
use Rattle.theory.specs.declared.Verdict.TheVariants.{Meets, Misses, Open}
use Rattle.theory.specs.declared.Counted.{Counted}
use Rattle.theory.specs.View.{level}
use Rattle.theory.specs.Demand.{demand_of}
use Rattle.theory.specs.Bound.{Least, None}
use Rattle.theory.specs.Rounds.{Counts}
use Rattle.analysis.specs.declared.Record.{Record}
use Rattle.theory.specs.Tables.{merged_view}
use Rattle.analysis.specs.Answers.{bound_of, analysis_fault, no_record, analysed}
use Rattle.basics.specs.Exactly.{◌exactly_if◌}
use Rattle.writing.specs.Write.{text_of, write_answer, written}
use Rattle.meaning.specs.Meaning.{Correct, Complete, Unambiguous, PassesCheck}
use Rattle.meaning.specs.Back.{TextFits, ReadsBack, Rewrites, SameText}
use Rattle.promises.specs.Words.{Writes}

-- the demand, C and the deadline of a task, by its slot, counted from 0; the demand is that of the merged pairs (request 9/12), and C and D are the table's own (`one_resource` of `Groups`)
abbrev pub demand_in : Table → ℕ → ℕ → ℕ
demand_in t i = demand_of (merged_view t) (level i)

abbrev pub run_in : Table → ℕ → ℕ
run_in t i = (merged_view t).C (level i)

abbrev pub deadline_in : Table → ℕ → ℕ
deadline_in t i = (merged_view t).D (level i)

-- n demands are worked out for a task where no allowance is set
abbrev pub CountIn : Table → ℕ → ℕ → Type 0
CountIn t i n = Counts (demand_in t i) (deadline_in t i) (run_in t i) n

-- a verdict on a task of an accepted table, so many rounds being allowed:
pub record RightVerdict (t : Table) (i allowance : ℕ) (v : Verdict) : Type 0 where
  -- one that is not open is `meets u` exactly if u is the least whole microsecond, not above the deadline, that covers its own demand,
  pub meets : (v ≡ Open → ⊥) → (u : ℕ) → (v ≡ Meets u) exactly_if Least (demand_in t i) (deadline_in t i) u
  -- and `misses` exactly if there is none
  pub misses : (v ≡ Open → ⊥) → (v ≡ Misses) exactly_if None (demand_in t i) (deadline_in t i)
  -- it is open exactly if the count without an allowance is above the allowance
  pub is_open : (v ≡ Open) exactly_if ((n : ℕ) × CountIn t i n × (allowance < n))
  -- the bound lies from C to D
  pub from_run : (u : ℕ) → v ≡ Meets u → (run_in t i ≤ u) × (u ≤ deadline_in t i)

-- a row's record by its slot; past its end, one of no task
abbrev pub record_in : List Record → ℕ → Record
record_in row i = get_or row i no_record

-- of a row that nothing is said against, once the analysis has filled it:
pub record RightRow (t : Table) (allowance : ℕ) (row : List Record) : Type 0 where
  -- "one for each task": each record holds the number, the verdict and the rounds of its own task
  pub task : (i : ℕ) → i < t.n → (record_in (analysed t allowance row) i).task ≡ level i
  pub verdict : (i : ℕ) → i < t.n
      → let x = record_in (analysed t allowance row) i in
      bound_of t (level i) allowance ≡ Ok (record { verdict = x.verdict; rounds = x.rounds })
  -- "the .. records past the last one written are unchanged"
  pub past : drop t.n (analysed t allowance row) ≡ drop t.n row
  pub long : length (analysed t allowance row) ≡ length row

pub record Demand2 : Type 0 where
  -- of each task of an accepted table, under every allowance from 1, `bound` answers a verdict that is right (its rounds are `Rounds`')
  pub verdicts : (t : Table) (i allowance : ℕ) → table_fault t ≡ Ok tt → i < t.n → 1 ≤ allowance
      → (r : Counted) × (bound_of t (level i) allowance ≡ Ok r) × RightVerdict t i allowance r.verdict
  pub rows : (t : Table) (allowance : ℕ) (row : List Record) → analysis_fault t allowance (length row) ≡ Ok tt → RightRow t allowance row
  -- the table of an accepted listing holds exactly the figures that its lines state
  pub correct : Correct
  pub complete : Complete
  pub unambiguous : Unambiguous
  pub passes_check : PassesCheck
  -- what is written of an accepted table, where there is room, is its text; "After success the bytes .. past the last one written are unchanged"
  pub written_text : (t : Table) (out : List ℕ) → table_fault t ≡ Ok tt → length (text_of t) ≤ length out → Writes (text_of t) out (write_answer t (length out)) (written t out)
  -- a written listing reads back as the same table, and an accepted listing rewritten and read again gives the same table
  pub text_fits : TextFits
  pub reads_back : ReadsBack
  pub cleared_same : ClearedSame
  pub rewrites : Rewrites
  pub same_text : SameText
