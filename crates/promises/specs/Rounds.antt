-- Request 6/12 of document 02: how many rounds. That an allowance of 0 is refused is in demand 1, and when a verdict is open in demand 2 too.
use Rattle.std.specs.Prelude.{ℕ, suc, ◌+◌, ◌-◌, ◌≤◌, ◌<◌, ◌≡◌, List, Ok}
use Rattle.basics.specs.Exactly.{◌exactly_if◌}
use Rattle.table.specs.declared.Table.{Table}
use Rattle.table.specs.Rules.{table_fault}
use Rattle.table.specs.Answers.{accepted}
use Rattle.listing.specs.Read.{read_listing}
use Rattle.theory.specs.declared.Verdict.TheVariants.{Meets, Open}
use Rattle.theory.specs.declared.Counted.{Counted}
use Rattle.theory.specs.View.{level}
use Rattle.theory.specs.Rounds.{length_after, Ends}
use Rattle.theory.specs.Tables.{merged_view}
use Rattle.analysis.specs.Answers.{bound_of}
use Rattle.page.specs.declared.Columns.{Columns}
use Rattle.page.specs.declared.Columns.TheVariants.{Five}
use Rattle.page.specs.Report.{report_allowance, bench_allowance, row_text, more_of, page_text, report_text}
use Rattle.promises.specs.Demand2.{demand_in, run_in, deadline_in, CountIn}
use Rattle.promises.specs.NoEasier.{NoEasier, Harder, Related}
use Rattle.promises.specs.NotEmpty.{on, tasks_A}

-- the round at the length after k rounds is the last: the length "repeats or passes D"
abbrev pub LastIn : Table → ℕ → ℕ → Type 0
LastIn t i k = Ends (demand_in t i) (deadline_in t i) (length_after (demand_in t i) k (run_in t i))

-- a verdict on a task of an accepted table and its rounds, so many of them allowed:
pub record RightRounds (t : Table) (i allowance : ℕ) (r : Counted) : Type 0 where
  -- the verdict is open "exactly when it runs out with the length neither repeated nor past D": no round that is allowed is the last
  pub runs_out : (r.verdict ≡ Open) exactly_if ((k : ℕ) → k < allowance → LastIn t i k → ⊥)
  -- then the rounds are the allowance, else "the count of that definition"
  pub used_up : r.verdict ≡ Open → r.rounds ≡ allowance
  pub counted : (r.verdict ≡ Open → ⊥) → CountIn t i r.rounds
  -- never are there more than D − C + 1
  pub most : r.rounds ≤ deadline_in t i - run_in t i + 1

-- the page of a table's tasks, each with its verdict and its rounds, and in five columns with its wait (`Waits`)
abbrev pub rows_text : Columns → Table → (ℕ → Counted) → List ℕ
rows_text columns t row = page_text columns t.n (λ i. row_text (suc i) (row i).verdict (row i).rounds (more_of columns t i))

-- of a listing, whose table is t, these rows are printed, and they are what `bound` answers
pub record PrintsRows (columns : Columns) (allowance : ℕ) (s : List ℕ) (t : Table) (row : ℕ → Counted) : Type 0 where
  pub table : read_listing s ≡ accepted t
  pub text : report_text columns allowance s ≡ rows_text columns t row
  pub answer : (i : ℕ) → i < t.n → bound_of t (level i) allowance ≡ Ok (row i)

-- what `report` prints of two listings, whose tables are a and b: where the second has a bound in the row of a task of the first, the first has one too, and no larger
pub record KeptInPrint (s s' : List ℕ) (a b : Table) : Type 0 where
  pub row : ℕ → Counted
  pub row' : ℕ → Counted
  pub first : PrintsRows Five report_allowance s a row
  pub second : PrintsRows Five report_allowance s' b row'
  pub kept : (i u : ℕ) → i < a.n → (row' i).verdict ≡ Meets u → (w : ℕ) × ((row i).verdict ≡ Meets w) × (w ≤ u)

-- under this allowance, of a table and one made harder: the second meets after n rounds, and the first, which needs more, is open
pub record Overtakes (a b : Table) (i allowance u n : ℕ) : Type 0 where
  pub harder : Related Harder a b
  pub first : bound_of a (level i) allowance ≡ Ok (record { verdict = Open; rounds = allowance })
  pub second : bound_of b (level i) allowance ≡ Ok (record { verdict = Meets u; rounds = n })

pub record Rounds : Type 0 where
  -- what `bound` answers of a task is right
  pub right : (t : Table) (i allowance : ℕ) (r : Counted) → bound_of t (level i) allowance ≡ Ok r → RightRounds t i allowance r
  -- the count without an allowance is one number, and "at most D − C + 1"
  pub count : (t : Table) (i : ℕ) → table_fault t ≡ Ok tt → i < t.n
      → (n : ℕ) × CountIn t i n × ((m : ℕ) → CountIn t i m → m ≡ n) × (n ≤ deadline_in t i - run_in t i + 1)
  -- "A verdict other than `open` given under one allowance stays the same under every larger one", and so does its count
  pub stays : (t : Table) (i A B : ℕ) (r : Counted) → A ≤ B → bound_of t (level i) A ≡ Ok r → (r.verdict ≡ Open → ⊥)
      → bound_of t (level i) B ≡ Ok r
  -- "a fourth column `rounds`": of an accepted listing a row is printed for each task, with the verdict and the rounds that `bound` answers under the program's allowance
  pub prints : (columns : Columns) (allowance : ℕ) (s : List ℕ) (t : Table) → 1 ≤ allowance → read_listing s ≡ accepted t
      → (row : ℕ → Counted) × PrintsRows columns allowance s t row
  -- under the allowance of `report` none is open,
  pub never_open : (t : Table) (i : ℕ) (r : Counted) → bound_of t (level i) report_allowance ≡ Ok r → r.verdict ≡ Open → ⊥
  -- so that the one result of `NoEasier` holds of what `bound` answers under it,
  pub kept : (a b : Table) → Related NoEasier a b → (i : ℕ) → i < a.n → (u n : ℕ)
      → bound_of b (level i) report_allowance ≡ Ok (record { verdict = Meets u; rounds = n })
      → (w : ℕ) × (m : ℕ) × (bound_of a (level i) report_allowance ≡ Ok (record { verdict = Meets w; rounds = m })) × (w ≤ u)
  -- and of what `report` prints;
  pub printed : (s s' : List ℕ) (a b : Table) → read_listing s ≡ accepted a → read_listing s' ≡ accepted b → NoEasier (merged_view a) (merged_view b) → KeptInPrint s s' a b
  -- and under the allowance of `bench`, so of what that prints, it does not: task 3 of case A on two processors, where it takes six rounds, and on one
  pub overtakes : Overtakes (on 2 tasks_A) (on 1 tasks_A) 2 bench_allowance 22_000 4
