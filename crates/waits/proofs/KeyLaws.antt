-- The requests of a task as numbers, from its last resource on.
-- Assumes nothing.
use Prim.Native.Nat.{ℕ, suc, ◌-◌, ◌≤◌, ◌<◌}
use mathlib.Core.Path.{◌≡◌, ap, ◌∙◌}
use mathlib.Core.List.{List, [], ◌∷◌, ◌++◌}
use native.Mathlib.Omega.{arith}
use native.Mathlib.Nat.{le_refl}
use borrow.Author.Tests.{lt-ltb, le-ltb}
use lib.Dec.{leb}
use Rattle.basics.specs.Choice.{pick}
use Rattle.basics.specs.Over.{join_to}
use Rattle.basics.proofs.JoinLaws.{join_whole, join_past, join_rest}
use Rattle.table.specs.declared.Task.{Task}
use Rattle.table.specs.Limits.{max_resources}
use Rattle.table.specs.At.{pair_of}
use Rattle.waits.specs.Kept.{key_of, key_at, keys_of}

-- of the resources from slot k on
abbrev pub keys_rest : Task → ℕ → List ℕ
keys_rest x k = join_to max_resources (λ j. pick (leb k j) (key_at x j) [])

module _ (x : Task) where
  pub rest_none : keys_rest x max_resources ≡ []
  rest_none = join_past max_resources max_resources (key_at x) (le_refl max_resources)

  pub rest_all : (k : ℕ) → k ≡ 0 → keys_rest x k ≡ keys_of x
  rest_all k e = ap (keys_rest x) e ∙ join_whole max_resources (key_at x)

  rest_step : (k : ℕ) → 0 < k → k ≤ max_resources → keys_rest x (k - 1) ≡ key_at x (k - 1) ++ keys_rest x k
  rest_step k h l =
      let e : suc (k - 1) ≡ k = omega arith in
      join_rest max_resources (k - 1) (key_at x) (omega arith) ∙ rw e

  pub rest_used : (k : ℕ) → 0 < k → k ≤ max_resources → 0 < (pair_of x (k - 1)).requests → keys_rest x (k - 1) ≡ key_of (pair_of x (k - 1)).longest (k - 1) ∷ keys_rest x k
  rest_used k h l u = rest_step k h l ∙ rw (lt-ltb 0 (pair_of x (k - 1)).requests u)

  pub rest_unused : (k : ℕ) → 0 < k → k ≤ max_resources → (pair_of x (k - 1)).requests ≤ 0 → keys_rest x (k - 1) ≡ keys_rest x k
  rest_unused k h l u = rest_step k h l ∙ rw (le-ltb 0 (pair_of x (k - 1)).requests u)
