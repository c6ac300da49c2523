-- What the printed rows promise about the console itself: Theorem 1 of HURRAY-TR-090908, over every run of the tasks on a kernel of the kind that README tells in "What is presumed". A run is jobs, and a schedule of them: `Jobs` and `Schedule` of
-- `schedules` say which.
use Rattle.std.specs.Prelude.{ℕ, ◌*◌, ◌≤◌, ◌<◌, ◌≡◌, List, get_or}
use Prim.Native.String.{String}
use Rattle.basics.specs.Text.{bytes}
use Rattle.table.specs.declared.Table.{Table}
use Rattle.table.specs.Answers.{accepted}
use Rattle.listing.specs.Read.{read_listing}
use Rattle.theory.specs.declared.Verdict.TheVariants.{Meets}
use Rattle.theory.specs.declared.Counted.{Counted}
use Rattle.theory.specs.View.{level}
use Rattle.theory.specs.Tables.{merged_view}
use Rattle.schedules.specs.Jobs.{JobSet, Generated}
use Rattle.schedules.specs.Schedule.{Schedule, UnderPIP, RespondsWithin}
use Rattle.schedules.specs.Theorem.{Theorem1, finer}
use Rattle.schedules.specs.Shown.{shown_table, shown_bounds, Shown, miss_table, BesideMiss}
use Rattle.page.specs.declared.Columns.{Columns}
use Rattle.page.specs.declared.Columns.TheVariants.{Five}
use Rattle.page.specs.Report.{report_allowance}
use Rattle.promises.specs.Reads.{Reads}
use Rattle.promises.specs.Rounds.{PrintsRows}

-- in every run of the table's tasks, in which each group is one lock, its instants being k-ths of a microsecond, no job of a task that X names takes longer than so many microseconds: `NoneLonger` of `schedules`, of this table
abbrev pub NoJobLonger : Table → (ℕ → Type 0) → (ℕ → ℕ) → Type 0
NoJobLonger t X micros =
    (k : ℕ) → 1 ≤ k → (J : JobSet) → Generated (finer k (merged_view t)) J → (S : Schedule) (E : ℕ) → UnderPIP (finer k (merged_view t)) J S E
    → (i : ℕ) → i < t.n → X i → RespondsWithin J S E i (k * micros i)

-- the rows of these tasks say `meets`, with so many microseconds
abbrev pub RowsMeet : Table → (ℕ → Counted) → (ℕ → Type 0) → (ℕ → ℕ) → Type 0
RowsMeet t row X micros = (i : ℕ) → i < t.n → X i → (row i).verdict ≡ Meets (micros i)

-- what each of these tasks reads is among them, and so is what that reads in turn: `Closed` of `schedules`, by the locks and ceilings
abbrev pub ReadNoOther : Table → (ℕ → Type 0) → Type 0
ReadNoOther t X = (i l : ℕ) → i < t.n → X i → l < t.n → Reads (merged_view t) (level i) (level l) → X l

-- task i itself, and each that is read by one of these: what i reads "directly or in turn"
pub data InTurn (t : Table) (i : ℕ) : ℕ → Type 0 where
  itself : InTurn t i i
  further : (m l : ℕ) → m < t.n → InTurn t i m → Reads (merged_view t) (level m) (level l) → InTurn t i l

-- the listings of the tables of which `Shown` draws a run: all tasks meet; the first misses
abbrev pub shown_listing : String
shown_listing = "cpus 2\ntask 0.02 0.002 0.02\nuse 1 1 0.001 0.001\ntask 0.02 0.003 0.02\ntask 0.02 0.003 0.02\ntask 0.02 0.005 0.02\nuse 1 1 0.003 0.003\n"

abbrev pub miss_listing : String
miss_listing = "cpus 2\ntask 0.006 0.003 0.003\nuse 1 1 0.001 0.001\nuse 2 1 0.001 0.001\ntask 0.02 0.003 0.02\nuse 2 2 0.001 0.002\ntask 0.02 0.005 0.02\nuse 1 1 0.005 0.005\n"

pub record Responds : Type 1 where
  -- where a program, `report` or `bench`, says `meets` of every task of a listing, each job of a task is finished within the microseconds that its row prints
  pub all_meet : (columns : Columns) (allowance : ℕ) (s : List ℕ) (t : Table) (row : ℕ → Counted) (micros : ℕ → ℕ) → PrintsRows columns allowance s t row
      → RowsMeet t row (λ i. Unit) micros → NoJobLonger t (λ i. Unit) micros
  -- so it is of one task if its row, and the rows of all tasks that it reads directly or in turn, say `meets`; and of every set of tasks that read none but each other
  pub read_meet : (columns : Columns) (allowance : ℕ) (s : List ℕ) (t : Table) (row : ℕ → Counted) (i : ℕ) (micros : ℕ → ℕ) → PrintsRows columns allowance s t row
      → RowsMeet t row (InTurn t i) micros → NoJobLonger t (InTurn t i) micros
  pub others_meet : (columns : Columns) (allowance : ℕ) (s : List ℕ) (t : Table) (row : ℕ → Counted) (X : ℕ → Type 0) (micros : ℕ → ℕ) → PrintsRows columns allowance s t row
      → ReadNoOther t X → RowsMeet t row X micros → NoJobLonger t X micros
  -- Where a row says `misses` or `open`, nothing is promised of that task, nor of those that read it, directly or in turn:
  -- that a row itself says `meets` is not enough (`backlog-below.txt` and `backlog-above.txt` of the examples show it too)
  pub not_alone : ((columns : Columns) (allowance : ℕ) (s : List ℕ) (t : Table) (row : ℕ → Counted) (i u : ℕ) → PrintsRows columns allowance s t row → i < t.n → (row i).verdict ≡ Meets u → NoJobLonger t (λ l. l ≡ i) (λ l. u)) → ⊥
  -- the theorem itself, over views, and that none of the facts about a kernel can be left out of it
  pub theorem1 : Theorem1
  -- it is not said of nothing: there is a run without end of the table of a listing of which `report` says `meets` in every row, and in that run a job that takes as long as its row prints
  pub shown : Shown
  pub shown_listing_holds : read_listing (bytes shown_listing) ≡ accepted shown_table
  pub shown_rows : (row : ℕ → Counted) × PrintsRows Five report_allowance (bytes shown_listing) shown_table row × RowsMeet shown_table row (λ i. Unit) (λ i. get_or shown_bounds i 0)
  -- and one of a listing in which the first row says `misses`, and the second task takes longer than its row prints
  pub beside_miss : BesideMiss
  pub miss_listing_holds : read_listing (bytes miss_listing) ≡ accepted miss_table
