-- Document 02, 1/12: on which side of what was typed each figure of a table lies.
use Rattle.std.specs.Prelude.{ℕ, ◌<◌, ◌≡◌, List, get_or}
use Rattle.table.specs.declared.Table.{Table}
use Rattle.table.specs.Limits.{max_resources}
use Rattle.table.specs.At.{task_at, pair_at}
use Rattle.field.specs.declared.Rounding.TheVariants.{Down, Up}
use Rattle.field.specs.Spelling.{RoundedTo}
use Rattle.table.specs.Answers.{accepted}
use Rattle.listing.specs.Read.{read_listing}
use Rattle.line.specs.Stated.{UseFigures}
use Rattle.meaning.specs.Figures.{no_figures, TaskFigures, Figures, StatesFigures, use_for}

-- ---- the figures of a task by its slot, and of a resource by its slot, both counted from 0; zeros where there are none

abbrev pub task_figures : Figures → ℕ → TaskFigures
task_figures f i = get_or f.tasks i no_figures

abbrev pub use_figures : Figures → ℕ → ℕ → UseFigures
use_figures f i k = use_for (task_figures f i).uses k

-- ---- no period or deadline is longer than it was typed, no run or lock time shorter, and each is less than a microsecond away

pub record OnTheirSides (t : Table) (f : Figures) : Type 0 where
  pub T : (i : ℕ) → i < t.n → RoundedTo Down (task_figures f i).T.typed (task_at t i).period
  pub C : (i : ℕ) → i < t.n → RoundedTo Up (task_figures f i).C.typed (task_at t i).run
  pub D : (i : ℕ) → i < t.n → RoundedTo Down (task_figures f i).D.typed (task_at t i).deadline
  pub c : (i k : ℕ) → i < t.n → k < max_resources → RoundedTo Up (use_figures f i k).c.typed (pair_at t i k).longest
  pub CT : (i k : ℕ) → i < t.n → k < max_resources → RoundedTo Up (use_figures f i k).CT.typed (pair_at t i k).total

abbrev pub Sides : Type 0
Sides = (s : List ℕ) (t : Table) (f : Figures) → read_listing s ≡ accepted t → StatesFigures s f → OnTheirSides t f
