-- Request 8/12: how long a task may wait under P-PCP for what lower tasks hold, the report's equations 13 and 14. "For each resource k that a task uses, take the c of all
-- lower tasks on all resources other than k, each pair counted, and sum the A largest (all, if fewer); multiply by N; add over k."
use Rattle.std.specs.Prelude.{ℕ, suc, ◌*◌, ◌&&◌, not, List, [], ◌∷◌, eqb}
use Rattle.basics.specs.Choice.{pick, only}
use Rattle.basics.specs.Over.{join_to}
use Rattle.basics.specs.Largest.{sum_largest}
use Rattle.table.specs.declared.Level.{Level}
use Rattle.table.specs.declared.Resource.{Resource}
use Rattle.table.specs.Limits.{max_resources}
use Rattle.theory.specs.View.{View, level, resource, is_above, over_resources, uses}

-- "the c .. on all resources other than k, each pair counted": of task l, each pair in use
unfoldable pub others_of : View → Level → Resource → List ℕ
others_of v l k = join_to max_resources (λ j. pick (uses v l (resource j) && not (eqb (suc j) k.0)) (v.c l (resource j) ∷ []) [])

-- "of all lower tasks"
unfoldable pub others_below : View → Level → Resource → List ℕ
others_below v i k = join_to v.n (λ l. pick (is_above i (level l)) (others_of v (level l) k) [])

-- (13): "sum the A largest (all, if fewer)"; (14): "for each resource k that a task uses", "multiply by N; add over k"
unfoldable pub wait_of : View → ℕ → Level → ℕ
wait_of v A i = over_resources (λ k. only (uses v i k) (v.N i k * sum_largest A (others_below v i k)))
