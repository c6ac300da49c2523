-- Request 8/12 of document 02: how long a task waits under P-PCP, the report's terms (13) and (14), as `wait` answers it and `report` prints it. That 17 and 18 are given exactly when they are called for, and
-- what `wait` refuses, is in demand 1; what a card keeps of alpha, in `Archives`.
use Rattle.std.specs.Prelude.{ℕ, suc, ◌*◌, ◌≤◌, ◌<◌, ◌≡◌, Some, None, Ok, List, [], ◌∷◌, ◌⊎◌, length, get_or}
use Rattle.basics.specs.Choice.{only}
use Rattle.basics.specs.Exactly.{◌exactly_if◌}
use Rattle.basics.specs.Text.{bytes}
use Rattle.basics.specs.Largest.{sum_of, LargestAgrees}
use Rattle.table.specs.declared.Level.{Level}
use Rattle.table.specs.declared.Table.{Table}
use Rattle.table.specs.Limits.{max_resources}
use Rattle.table.specs.At.{alpha_at, NoAlpha}
use Rattle.table.specs.Rules.{table_fault}
use Rattle.table.specs.Answers.{accepted}
use Rattle.table.specs.Without.{without_alpha, SameButAlpha}
use Rattle.put.specs.Text.{count_text}
use Rattle.listing.specs.Read.{read_listing}
use Rattle.theory.specs.declared.Counted.{Counted}
use Rattle.theory.specs.View.{View, level, resource, over_resources, uses}
use Rattle.theory.specs.Tables.{merged_view}
use Rattle.analysis.specs.Answers.{bound_of}
use Rattle.waits.specs.Wait.{others_below, wait_of}
use Rattle.waits.specs.Answers.{wait_in, wait_answer, all_waits}
use Rattle.page.specs.declared.Columns.TheVariants.{Five}
use Rattle.page.specs.Report.{report_allowance, row_text, page_text, report_prints}

-- each task has an alpha
abbrev pub HaveAlpha : Table → Type 0
HaveAlpha t = (i : ℕ) → i < t.n → 1 ≤ alpha_at t i

-- "`report` alone prints it as a fifth column `wait_us`": of a listing, whose table is t, rows with these cells at their end are printed
pub record PrintsWaits (s : List ℕ) (t : Table) (row : ℕ → Counted) (cell : ℕ → List ℕ) : Type 0 where
  pub text : report_prints s ≡ page_text Five t.n (λ i. row_text (suc i) (row i).verdict (row i).rounds (cell i ∷ []))
  -- the verdicts and the rounds are what `bound` answers
  pub answer : (i : ℕ) → i < t.n → bound_of t (level i) report_allowance ≡ Ok (row i)
  -- the wait with the task's own alpha, in microseconds,
  pub wait : HaveAlpha t → (i : ℕ) → i < t.n → cell i ≡ count_text (wait_of (merged_view t) (alpha_at t i) (level i))
  -- "`-` without alpha", and only then
  pub dash : (i : ℕ) → i < t.n → (cell i ≡ bytes "-") exactly_if NoAlpha t

-- what `wait` and `wait_all` answer of an accepted table
pub record AnswersWaits (t : Table) : Type 0 where
  -- alpha is given "for all tasks or none"
  pub all_or_none : HaveAlpha t ⊎ NoAlpha t
  -- the wait with the task's own alpha, or that the table has none
  pub wait : HaveAlpha t → (i : ℕ) → i < t.n → wait_answer t (level i) ≡ Ok (Some (wait_of (merged_view t) (alpha_at t i) (level i)))
  pub no_wait : NoAlpha t → (i : ℕ) → i < t.n → wait_answer t (level i) ≡ Ok None
  -- and the same of all tasks at once
  pub given : ((waits : List ℕ) × (all_waits t ≡ Ok (Some waits))) exactly_if HaveAlpha t
  pub none : (all_waits t ≡ Ok None) exactly_if NoAlpha t
  pub all : (waits : List ℕ) → all_waits t ≡ Ok (Some waits) → (i : ℕ) → i < t.n → get_or waits i 0 ≡ wait_of (merged_view t) (alpha_at t i) (level i)

pub record Waits : Type 0 where
  pub answers : (t : Table) → table_fault t ≡ Ok tt → AnswersWaits t
  pub printed : (s : List ℕ) (t : Table) → read_listing s ≡ accepted t → (row : ℕ → Counted) × (cell : ℕ → List ℕ) × PrintsWaits s t row cell
  -- "the A largest (all, if fewer)" are summed as they are worked out, and that is the largest sum which at most A of them have, each taken once
  pub largest : LargestAgrees
  -- "The verdicts and demand 3 do not read alpha": all that these and request 7/12 read of a table is the view of its merged pairs, and that is the same without the alphas;
  pub unread : (t : Table) → merged_view (without_alpha t) ≡ merged_view t
  -- so two accepted tables that differ in alpha alone have the same verdict and rounds for each task, under every allowance
  pub verdicts : (a b : Table) → table_fault a ≡ Ok tt → table_fault b ≡ Ok tt → SameButAlpha a b → (i allowance : ℕ) → i < a.n
      → bound_of b (level i) allowance ≡ bound_of a (level i) allowance
  -- what a planner asks next: of tables that differ in alpha alone, a task's own alpha being no smaller in the second, its wait is no smaller,
  pub raised : (a b : Table) → SameButAlpha a b → (i : ℕ) → i < a.n → alpha_at a i ≤ alpha_at b i → wait_in a (level i) ≤ wait_in b (level i)
  -- and with an alpha of at least as many as there are below it, each time all of them are summed
  pub of_all : (v : View) (A : ℕ) (i : Level) → ((k : ℕ) → k < max_resources → length (others_below v i (resource k)) ≤ A)
      → wait_of v A i ≡ over_resources (λ k. only (uses v i k) (v.N i k * sum_of (others_below v i k)))
