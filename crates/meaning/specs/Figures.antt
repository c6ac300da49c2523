-- The reading of an accepted listing said a second way, without reading it: the figures that a listing's lines state, the rules that
-- they obey, and the table that holds them.
use Rattle.std.specs.Prelude.{ℕ, zero, suc, ◌+◌, ◌≤◌, ◌<◌, ◌≡◌, ◌⊎◌, List, [], ◌∷◌, ◌++◌, length, eqb}
use Rattle.basics.specs.Choice.{pick}
use Rattle.basics.specs.Over.{row_to}
use Rattle.basics.specs.Text.{line_of}
use Rattle.table.specs.declared.Pair.{Pair}
use Rattle.table.specs.declared.Task.{Task}
use Rattle.table.specs.declared.Table.{Table}
use Rattle.table.specs.Limits.{max_cpus, max_tasks, max_resources, max_group, max_alpha}
use Rattle.table.specs.Empty.{empty_task}
use Rattle.table.specs.Accepted.{GoodTimes, GoodPair}
use Rattle.field.specs.Spelling.{Time, StatesCount}
use Rattle.line.specs.Stated.{StatesGroup, StatesTask, UseFigures, StatesUse, held_pair}

-- ---- figures

-- the time of no line
abbrev pub no_time : Time
no_time = record { typed = 0; held = 0 }

-- the alpha of a task, or that no line has one (document 02, 8/12)
pub data AlphaFigure : Type 0 where
  no_alpha : AlphaFigure
  alpha_of : ℕ → AlphaFigure

-- T, C and D, the alpha, and the figures of its `use` lines
pub record TaskFigures : Type 0 where
  pub T : Time
  pub C : Time
  pub D : Time
  pub alpha : AlphaFigure
  pub uses : List UseFigures

-- no figures
abbrev pub no_figures : TaskFigures
no_figures = record { T = no_time; C = no_time; D = no_time; alpha = no_alpha; uses = [] }

-- G and K of a `group` line (document 02, 9/12)
pub record GroupFigures : Type 0 where
  pub G : ℕ
  pub K : ℕ

pub record Figures : Type 0 where
  pub M : ℕ
  pub groups : List GroupFigures
  pub tasks : List TaskFigures

-- ---- which listings state them: `cpus M`, "after" it the `group` lines, then each task, "right after" it its `alpha` line if it has one, followed by its `use` lines

pub data StatesGroups : List ℕ → List GroupFigures → Type 0 where
  no_group : StatesGroups [] []
  by_group_line : {g k rest : List ℕ} {x : GroupFigures} {xs : List GroupFigures}
      → StatesGroup g k x.G x.K → StatesGroups rest xs → StatesGroups (line_of "group" (g ∷ k ∷ []) ++ rest) (x ∷ xs)

pub data StatesAlpha : List ℕ → AlphaFigure → Type 0 where
  no_alpha_line : StatesAlpha [] no_alpha
  by_alpha_line : {a : List ℕ} {A : ℕ} → StatesCount a A → StatesAlpha (line_of "alpha" (a ∷ [])) (alpha_of A)

pub data StatesUses : List ℕ → List UseFigures → Type 0 where
  no_use : StatesUses [] []
  by_use_line : {k n c ct rest : List ℕ} {u : UseFigures} {us : List UseFigures}
      → StatesUse k n c ct u → StatesUses rest us → StatesUses (line_of "use" (k ∷ n ∷ c ∷ ct ∷ []) ++ rest) (u ∷ us)

pub data StatesTasks : List ℕ → List TaskFigures → Type 0 where
  no_tasks : StatesTasks [] []
  by_task_line : {t c d alpha uses rest : List ℕ} {x : TaskFigures} {xs : List TaskFigures}
      → StatesTask t c d x.T x.C x.D → StatesAlpha alpha x.alpha → StatesUses uses x.uses → StatesTasks rest xs
      → StatesTasks (line_of "task" (t ∷ c ∷ d ∷ []) ++ (alpha ++ (uses ++ rest))) (x ∷ xs)

pub data StatesFigures : List ℕ → Figures → Type 0 where
  by_cpus_line : {m groups rest : List ℕ} {f : Figures} → StatesCount m f.M → StatesGroups groups f.groups → StatesTasks rest f.tasks
      → StatesFigures (line_of "cpus" (m ∷ []) ++ (groups ++ rest)) f

-- ---- the rules that they obey ("Quantities"): "4, 5 and 7 are decided on the rounded values"

-- "both .. 1 to 16", and K above the K of the group line before, which is `last`, 0 where there is none
pub data GoodGroups : ℕ → List GroupFigures → Type 0 where
  no_group : {last : ℕ} → GoodGroups last []
  one_group : {last : ℕ} {x : GroupFigures} {xs : List GroupFigures}
      → 1 ≤ x.G → x.G ≤ max_group → last < x.K → x.K ≤ max_resources → GoodGroups x.K xs → GoodGroups last (x ∷ xs)

-- the uses of a task with run time C, after one of resource `last`, with the CT so far
pub data GoodUses (C : ℕ) : ℕ → ℕ → List UseFigures → Type 0 where
  no_use : {last sum : ℕ} → GoodUses C last sum []
  one_use : {last sum : ℕ} {u : UseFigures} {us : List UseFigures}
      → last < u.K → u.K ≤ max_resources → GoodPair (held_pair u) → sum + u.CT.held ≤ C
      → GoodUses C u.K (sum + u.CT.held) us → GoodUses C last sum (u ∷ us)

pub record GoodTaskFigures (x : TaskFigures) : Type 0 where
  pub times : GoodTimes x.T.held x.C.held x.D.held
  pub uses : GoodUses x.C.held 0 0 x.uses

-- "A a count field from 1 to 64", not "above that of the last task before with one", which is `last`, 0 where there is none
pub data GoodAlpha (last : ℕ) : AlphaFigure → Type 0 where
  not_given : GoodAlpha last no_alpha
  given : {A : ℕ} → 1 ≤ A → A ≤ max_alpha → (last ≡ 0) ⊎ (A ≤ last) → GoodAlpha last (alpha_of A)

-- the last alpha after a task with this one
abbrev pub last_with : ℕ → AlphaFigure → ℕ
last_with last no_alpha = last
last_with last (alpha_of A) = A

-- the tasks after an alpha `last`
pub data GoodTasks : ℕ → List TaskFigures → Type 0 where
  no_tasks : {last : ℕ} → GoodTasks last []
  one_task : {last : ℕ} {x : TaskFigures} {xs : List TaskFigures} → GoodTaskFigures x → GoodAlpha last x.alpha → GoodTasks (last_with last x.alpha) xs
      → GoodTasks last (x ∷ xs)

-- how many `alpha` lines a task has, and how many of these tasks have one
abbrev pub alpha_lines : AlphaFigure → ℕ
alpha_lines no_alpha = 0
alpha_lines (alpha_of A) = 1

abbrev pub alphas_of : List TaskFigures → ℕ
alphas_of [] = 0
alphas_of (x ∷ xs) = alpha_lines x.alpha + alphas_of xs

-- the figures of the lines so far
pub record GoodSoFar (f : Figures) : Type 0 where
  pub cpus_least : 1 ≤ f.M
  pub cpus_most : f.M ≤ max_cpus
  pub groups : GoodGroups 0 f.groups
  pub tasks_most : length f.tasks ≤ max_tasks
  pub tasks : GoodTasks 0 f.tasks

-- and of a whole listing: there is a task, and alpha "for all tasks or none"
pub record GoodFigures (f : Figures) : Type 0 where
  pub so_far : GoodSoFar f
  pub tasks_least : 1 ≤ length f.tasks
  pub alphas : (alphas_of f.tasks ≡ 0) ⊎ (alphas_of f.tasks ≡ length f.tasks)

-- ---- the table that holds them, and zeros

-- the group that is stated for resource k + 1, 0 where no line states one
abbrev pub group_for : List GroupFigures → ℕ → ℕ
group_for [] k = 0
group_for (x ∷ xs) k = pick (eqb x.K (suc k)) x.G (group_for xs k)

-- the figures for resource k + 1, zeros where no line has it
abbrev pub use_for : List UseFigures → ℕ → UseFigures
use_for [] k = record { K = 0; N = 0; c = no_time; CT = no_time }
use_for (u ∷ us) k = pick (eqb u.K (suc k)) u (use_for us k)

-- and the pair
abbrev pub pair_for : List UseFigures → ℕ → Pair
pair_for us k = held_pair (use_for us k)

-- alpha, 0 where no line has it
abbrev pub held_alpha : AlphaFigure → ℕ
held_alpha no_alpha = 0
held_alpha (alpha_of A) = A

unfoldable pub task_of : TaskFigures → Task
task_of x = record { period = x.T.held; run = x.C.held; deadline = x.D.held; alpha = held_alpha x.alpha; pairs = row_to max_resources (pair_for x.uses) }

-- task i + 1
abbrev pub task_for : List TaskFigures → ℕ → Task
task_for [] i = empty_task
task_for (x ∷ xs) zero = task_of x
task_for (x ∷ xs) (suc i) = task_for xs i

unfoldable pub table_of : Figures → Table
table_of f = record { cpus = f.M; n = length f.tasks; groups = row_to max_resources (group_for f.groups); tasks = row_to max_tasks (task_for f.tasks) }
