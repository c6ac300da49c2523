-- Request 9/12 of document 02: locks taken together. Demand 2, the rounds and the wait read the merged pairs (`merged_view`, in `Demand2`, `Rounds` and `Waits`), and so do demand 3 and request 7/12 (`NoEasier`), what a
-- verdict reads (`Reads`) and what a bound promises about the console (`Responds`: a group is one lock there too). That a listing's groups are in its table, are written and read back is in demand 2; 19, 20 and 4 of a group are in demand 1.
use Rattle.std.specs.Prelude.{ℕ, pred, ◌≤◌, ◌<◌, ◌≡◌, Bool, ◌&&◌, ◌||◌, eqb, ltb, Ok}
use Prim.Native.String.{String}
use Rattle.table.specs.declared.Level.{Level}
use Rattle.table.specs.declared.Table.{Table}
use Rattle.table.specs.Limits.{max_resources}
use Rattle.table.specs.Empty.{no_groups}
use Rattle.table.specs.At.{alpha_at, group_at, pair_at, with_groups, NoGroup, Same}
use Rattle.table.specs.Rules.{table_fault}
use Rattle.theory.specs.Bound.{Least}
use Rattle.theory.specs.Merge.{merged}
use Rattle.theory.specs.Groups.{MergedAgrees}
use Rattle.theory.specs.Tables.{view_of, merged_view, counted_by, counted_in}
use Rattle.theory.specs.View.{level}
use Rattle.analysis.specs.Answers.{bound_of}
use Rattle.waits.specs.Wait.{wait_of}
use Rattle.waits.specs.Answers.{wait_in}
use Rattle.promises.specs.Words.{read_table}
use Rattle.promises.specs.Demand2.{demand_in, deadline_in}
use Rattle.promises.specs.NoEasier.{NoEasier}

-- ---- who is together

-- the resources at slots j and k are one lock: the same resource, or two of one group
abbrev pub together : Table → ℕ → ℕ → Bool
together t j k = eqb j k || (ltb 0 (group_at t j) && eqb (group_at t j) (group_at t k))

-- two tables that differ in the numbers of their groups alone, if at all
pub record SameTogether (a b : Table) : Type 0 where
  pub rest : Same (with_groups no_groups a) (with_groups no_groups b)
  pub locks : (j k : ℕ) → j < max_resources → k < max_resources → together a j k ≡ together b j k

-- "(these two for equal groups)"
abbrev pub EqualGroups : Table → Table → Type 0
EqualGroups a b = (k : ℕ) → k < max_resources → group_at a k ≡ group_at b k

-- ---- the promise

pub record Groups : Type 0 where
  -- "For the analysis a group is one resource: N and CT are sums over its members, c the largest. .. An ungrouped resource stands by itself", said without slots
  pub one_resource : MergedAgrees
  -- without groups all is read as before, so that every verdict and its rounds are those of the pairs as typed, and every wait
  pub without : (t : Table) → NoGroup t → merged_view t ≡ view_of t
  pub verdict_without : (t : Table) → NoGroup t → (allowance : ℕ) (i : Level) → counted_in t allowance i ≡ counted_by (view_of t) allowance i
  pub wait_without : (t : Table) → NoGroup t → (i : Level) → wait_in t i ≡ wait_of (view_of t) (alpha_at t (pred i.0)) i
  -- a group of one resource is that resource by itself
  pub of_one : (t : Table) (i k : ℕ) → table_fault t ≡ Ok tt → i < t.n → k < max_resources → ((j : ℕ) → j < max_resources → group_at t j ≡ group_at t k → j ≡ k)
      → pair_at (merged t) i k ≡ pair_at t i k
  -- only who is together matters: groups that are numbered otherwise, and groups of one in place of none, give the same verdicts, rounds and waits
  pub numbered : (a b : Table) → table_fault a ≡ Ok tt → table_fault b ≡ Ok tt → SameTogether a b → (i allowance : ℕ) → i < a.n
      → bound_of b (level i) allowance ≡ bound_of a (level i) allowance
  pub numbered_wait : (a b : Table) → table_fault a ≡ Ok tt → table_fault b ≡ Ok tt → SameTogether a b → (i : ℕ) → i < a.n → wait_in b (level i) ≡ wait_in a (level i)
  -- demand 3 and request 7/12 "read the merged pairs" and are "for equal groups". What a clerk can use: where the second table is no easier than the first by the pairs as typed, it is so by the merged
  -- pairs, so that the one result of `NoEasier` holds of the two
  pub as_typed : (a b : Table) → table_fault a ≡ Ok tt → table_fault b ≡ Ok tt → EqualGroups a b → NoEasier (view_of a) (view_of b) → NoEasier (merged_view a) (merged_view b)
  pub keeps : (a b : Table) → table_fault a ≡ Ok tt → table_fault b ≡ Ok tt → EqualGroups a b → NoEasier (view_of a) (view_of b) → (i : ℕ) → i < a.n
      → (u : ℕ) → Least (demand_in b i) (deadline_in b i) u → (w : ℕ) × Least (demand_in a i) (deadline_in a i) w × (w ≤ u)

-- ---- a larger group is a coarser lock, and no promise on bounds either way: computed

-- two locks of two tasks, which share none; taken together, task 1 waits for task 2
abbrev pub apart : String
apart = "cpus 1\ntask 10 1 10\nuse 1 1 1 1\ntask 10 2 10\nuse 2 1 2 2\n"

abbrev pub shared : String
shared = "cpus 1\ngroup 1 1\ngroup 1 2\ntask 10 1 10\nuse 1 1 1 1\ntask 10 2 10\nuse 2 1 2 2\n"

-- a task that holds two locks, and one below it that holds the first; taken together, what the first runs with them is one workload and not two
abbrev pub two : String
two = "cpus 1\ntask 5 2 4\nuse 1 1 1 1\nuse 2 1 1 1\ntask 5 1 5\nuse 1 1 1 1\n"

abbrev pub one : String
one = "cpus 1\ngroup 1 1\ngroup 1 2\ntask 5 2 4\nuse 1 1 1 1\nuse 2 1 1 1\ntask 5 1 5\nuse 1 1 1 1\n"

-- the bound of the task in slot i of a listing
abbrev pub BoundOf : String → ℕ → ℕ → Type 0
BoundOf s i u = Least (demand_in (read_table s) i) (deadline_in (read_table s) i) u

pub record EitherWay : Type 0 where
  -- from 1 ms to 3
  pub before_larger : BoundOf apart 0 1_000
  pub larger : BoundOf shared 0 3_000
  -- from 5 ms to 3
  pub before_smaller : BoundOf two 1 5_000
  pub smaller : BoundOf one 1 3_000
