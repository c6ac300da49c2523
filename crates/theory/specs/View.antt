-- What the analysis reads of a table. "A task's number is its priority; a resource's number never takes its part": a task is asked
-- for by its `Level`, a resource by its `Resource`, each counted from 1.
use Rattle.std.specs.Prelude.{ℕ, suc, Bool, ltb}
use Rattle.basics.specs.Choice.{only}
use Rattle.basics.specs.Over.{sum_to, max_to, first_to}
use Rattle.table.specs.declared.Level.{Level}
use Rattle.table.specs.declared.Resource.{Resource}
use Rattle.table.specs.Limits.{max_resources}

pub record View : Type 0 where
  -- m and n
  pub cpus : ℕ
  pub n : ℕ
  -- of a task
  pub T : Level → ℕ
  pub C : Level → ℕ
  pub D : Level → ℕ
  -- of a task and a resource
  pub N : Level → Resource → ℕ
  pub c : Level → Resource → ℕ
  pub CT : Level → Resource → ℕ

-- the task and the resource at a slot, counted from 0
abbrev pub level : ℕ → Level
level l = record { 0 = suc l }

abbrev pub resource : ℕ → Resource
resource k = record { 0 = suc k }

-- the first is of a higher priority: its number is strictly less
abbrev pub is_above : Level → Level → Bool
is_above l i = ltb l.0 i.0

-- "over the resources"
abbrev pub over_resources : (Resource → ℕ) → ℕ
over_resources g = sum_to max_resources (λ k. g (resource k))

-- "over tasks above i", "over tasks below i"
abbrev pub over_above : View → Level → (Level → ℕ) → ℕ
over_above v i g = sum_to v.n (λ l. only (is_above (level l) i) (g (level l)))

abbrev pub over_below : View → Level → (Level → ℕ) → ℕ
over_below v i g = sum_to v.n (λ l. only (is_above i (level l)) (g (level l)))

-- "the largest .. among tasks below i (0 if none)"
abbrev pub largest_below : View → Level → (Level → ℕ) → ℕ
largest_below v i g = max_to v.n (λ l. only (is_above i (level l)) (g (level l)))

-- task i uses resource k
abbrev pub uses : View → Level → Resource → Bool
uses v i k = ltb 0 (v.N i k)

-- "The ceiling of a resource is the smallest task number that uses it"; n + 1 where none does
unfoldable pub ceiling : View → Resource → Level
ceiling v k = level (first_to v.n (λ l. uses v (level l) k))
