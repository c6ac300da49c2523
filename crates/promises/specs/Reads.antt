-- Which figures of a table a verdict reads. Two accepted tables that agree on them have the same verdict, with the same rounds, for the task asked about, however much they differ in all others.
-- `EachRead` has, for each kind of them, two tables that show why it is asked.
use Rattle.std.specs.Prelude.{ℕ, ◌-◌, ◌≤◌, ◌<◌, ◌≡◌, true, List, ◌⊎◌, Ok}
use Rattle.basics.specs.Choice.{only}
use Rattle.basics.specs.Exactly.{◌exactly_if◌}
use Rattle.table.specs.declared.Level.{Level}
use Rattle.table.specs.declared.Table.{Table}
use Rattle.table.specs.Limits.{max_resources}
use Rattle.table.specs.Rules.{table_fault}
use Rattle.theory.specs.declared.Counted.{Counted}
use Rattle.theory.specs.View.{View, level, resource, is_above, over_resources, largest_below, uses, ceiling}
use Rattle.theory.specs.Demand.{shared_CT, other_CT, all_CT, high_CT, units_read}
use Rattle.theory.specs.Tables.{merged_view}
use Rattle.analysis.specs.Answers.{bound_of}
use Rattle.page.specs.declared.Columns.{Columns}
use Rattle.promises.specs.NoEasier.{EachTask, EachPair, Related}
use Rattle.promises.specs.Rounds.{PrintsRows}

-- ---- which tasks

-- the first is of a higher priority
abbrev pub Above : Level → Level → Type 0
Above l i = l.0 < i.0

-- i > m: the demand of i has the long form of (11)
abbrev pub LongForm : View → Level → Type 0
LongForm v i = v.cpus < i.0

-- Task l's deadline is read by the demand of task i, as README tells it ("What is presumed"): a workload of l stands in it, which puts a carried-in job as late as that deadline.
pub data Reads (v : View) (i l : Level) : Type 0 where
  -- of i ≤ m "the higher tasks that share a lock with it" (of i > m they are among the next);
  sharing : Above l i → (k : ℕ) → k < max_resources → uses v i (resource k) ≡ true → uses v l (resource k) ≡ true → Reads v i l
  -- of i > m "all higher tasks,
  higher : LongForm v i → Above l i → Reads v i l
  -- and those below that use a lock whose ceiling is above i"
  lower : LongForm v i → Above i l → (k : ℕ) → k < max_resources → uses v l (resource k) ≡ true → Above (ceiling v (resource k)) i → Reads v i l

-- The same by the terms of the demand is `units_read` of `theory`: the units of task l that count in it

-- ---- which figures

pub data FigureKind : Type 0 where
  -- m and n
  processors : FigureKind
  tasks : FigureKind
  -- of i itself C, D, and N of each lock
  run : FigureKind
  deadline : FigureKind
  requests : FigureKind
  -- above i T, D and the CT on i's locks, and for i > m also the other CT, and C less all CT
  period_above : FigureKind
  deadline_above : FigureKind
  shared : FigureKind
  other : FigureKind
  free : FigureKind
  -- below i, for i > m, T, D and the CT on locks whose ceiling is above i
  period_below : FigureKind
  deadline_below : FigureKind
  high : FigureKind
  -- for each of i's locks the largest c below i
  longest : FigureKind

-- Two tables, v the first and w the second, agree on the figures of a kind, as the demand of task i has them. T and D are asked of the tasks alone that i reads; which these are is the same in both
-- where all kinds agree (`read_in_both`). What is counted on locks with a ceiling above i is counted in each table by its own ceilings.
unfoldable pub AgreeOn : View → View → Level → FigureKind → Type 0
AgreeOn v w i processors = w.cpus ≡ v.cpus
AgreeOn v w i tasks = w.n ≡ v.n
AgreeOn v w i run = w.C i ≡ v.C i
AgreeOn v w i deadline = w.D i ≡ v.D i
AgreeOn v w i requests = (k : ℕ) → k < max_resources → w.N i (resource k) ≡ v.N i (resource k)
AgreeOn v w i period_above = EachTask v (λ l. Above l i → Reads v i l → w.T l ≡ v.T l)
AgreeOn v w i deadline_above = EachTask v (λ l. Above l i → Reads v i l → w.D l ≡ v.D l)
AgreeOn v w i shared = EachTask v (λ l. Above l i → shared_CT w i l ≡ shared_CT v i l)
AgreeOn v w i other = LongForm v i → EachTask v (λ l. Above l i → other_CT w i l ≡ other_CT v i l)
AgreeOn v w i free = LongForm v i → EachTask v (λ l. Above l i → w.C l - all_CT w l ≡ v.C l - all_CT v l)
AgreeOn v w i period_below = EachTask v (λ l. Above i l → Reads v i l → w.T l ≡ v.T l)
AgreeOn v w i deadline_below = EachTask v (λ l. Above i l → Reads v i l → w.D l ≡ v.D l)
AgreeOn v w i high = LongForm v i → EachTask v (λ l. Above i l → high_CT w i l ≡ high_CT v i l)
AgreeOn v w i longest =
    (k : ℕ) → k < max_resources → uses v i (resource k) ≡ true → largest_below w i (λ l. w.c l (resource k)) ≡ largest_below v i (λ l. v.c l (resource k))

-- what the demand of i has of two tables is the same; and all of it but one kind
abbrev pub SameRead : View → View → Level → Type 0
SameRead v w i = (k : FigureKind) → AgreeOn v w i k

abbrev pub SameBut : FigureKind → View → View → Level → Type 0
SameBut k v w i = (j : FigureKind) → (j ≡ k → ⊥) → AgreeOn v w i j

-- ---- the promise

-- of two accepted tables so related for task i, `bound` answers the same of it: the verdict and its rounds, under every allowance
abbrev pub SameAnswers : (View → View → Level → Type 0) → Type 0
SameAnswers R =
    (a b : Table) (i : ℕ) → Related (λ v w. R v w (level i)) a b → i < a.n → (allowance : ℕ) → bound_of b (level i) allowance ≡ bound_of a (level i) allowance

-- m and n are the same in both, and of some tasks so are their figures: C of those that `runs` names, T, D, N, c and CT of those that `rest` names
pub record Unchanged (rest runs : Level → Type 0) (v w : View) : Type 0 where
  pub cpus : w.cpus ≡ v.cpus
  pub n : w.n ≡ v.n
  pub T : EachTask v (λ l. rest l → w.T l ≡ v.T l)
  pub C : EachTask v (λ l. runs l → w.C l ≡ v.C l)
  pub D : EachTask v (λ l. rest l → w.D l ≡ v.D l)
  pub N : EachPair v (λ l k. rest l → w.N l k ≡ v.N l k)
  pub c : EachPair v (λ l k. rest l → w.c l k ≡ v.c l k)
  pub CT : EachPair v (λ l k. rest l → w.CT l k ≡ v.CT l k)

-- w is v but for the run time of task j
abbrev pub OnlyRun : Level → View → View → Type 0
OnlyRun j = Unchanged (λ l. Unit) (λ l. l ≡ j → ⊥)

-- w is v as far as task i and the tasks go that i reads in v, and in the largest c below it
abbrev pub SameWhereRead : View → View → Level → Type 0
SameWhereRead v w i = let named : Level → Type 0 = λ l. (l ≡ i) ⊎ Reads v i l in Unchanged named named v w × AgreeOn v w i longest

-- all kinds but `high`, and in its place the CT on locks whose ceiling in v is above i, of both tables
abbrev pub high_by : View → View → Level → Level → ℕ
high_by v x i l = over_resources (λ k. only (is_above (ceiling v k) i) (x.CT l k))

abbrev pub SameByFirst : View → View → Level → Type 0
SameByFirst v w i = SameBut high v w i × (LongForm v i → EachTask v (λ l. Above i l → high_by v w i l ≡ high_by v v i l))

pub record VerdictReads : Type 0 where
  pub same : SameAnswers SameRead
  -- and so a program prints the same row of it, the tables being those of two listings
  pub printed : (columns : Columns) (s s' : List ℕ) (a b : Table) (allowance i : ℕ) (row row' : ℕ → Counted) → PrintsRows columns allowance s a row → PrintsRows columns allowance s' b row' → i < a.n
      → Related (λ v w. SameRead v w (level i)) a b → row' i ≡ row i
  -- in particular "a longer C of a task, all else the same, changes nothing for the tasks above it"; nor does a shorter one
  pub run_below : (j : Level) → SameAnswers (λ v w i. Above i j × OnlyRun j v w)
  -- no kind can be left out;
  pub needed : (k : FigureKind) → SameAnswers (SameBut k) → ⊥
  -- nor is it enough that the second is the first as far as the tasks go that are read in the first, and in the largest c: another task may begin to be read
  pub not_enough : SameAnswers SameWhereRead → ⊥
  -- nor can the ceilings of the first be taken for both
  pub own_ceilings : SameAnswers SameByFirst → ⊥
  -- the tasks that i reads are those of which some units count in its demand
  pub reads_units : (t : Table) (i l : ℕ) → table_fault t ≡ Ok tt → l < t.n
      → Reads (merged_view t) (level i) (level l) exactly_if (1 ≤ units_read (merged_view t) (level i) (level l))
  pub read_in_both : (a b : Table) (i l : ℕ) → Related (λ v w. SameRead v w (level i)) a b → l < a.n
      → Reads (merged_view a) (level i) (level l) exactly_if Reads (merged_view b) (level i) (level l)
