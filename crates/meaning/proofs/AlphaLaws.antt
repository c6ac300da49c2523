-- The alphas of figures that obey the rules, as the table holds them: how many there are, and that they never rise.
-- Assumes nothing.
use Prim.Native.Nat.{ℕ, zero, suc, ◌≤◌, ◌<◌}
use mathlib.Core.Path.{◌≡◌, refl, ◌∙◌}
use mathlib.Core.List.{List, ◌∷◌}
use mathlib.Core.Logic.{inl, inr}
use native.Mathlib.Omega.{arith}
use lib.ListN.{length}
use lib.Dec.{ltb}
use borrow.Author.Tests.{lt-ltb}
use Rattle.basics.specs.Choice.{only}
use Rattle.basics.specs.Over.{sum_to, count_to}
use Rattle.basics.proofs.SumLaws.{sum_first}
use Rattle.table.specs.Limits.{max_alpha}
use Rattle.meaning.specs.Figures.{AlphaFigure, no_alpha, alpha_of, TaskFigures, GoodAlpha, last_with, GoodTasks, alpha_lines, alphas_of, held_alpha, task_of, task_for}

pub held_most : {last : ℕ} {a : AlphaFigure} → GoodAlpha last a → held_alpha a ≤ max_alpha
held_most GoodAlpha.not_given = omega arith
held_most (GoodAlpha.given l m f) = m

held_counted : {last : ℕ} {a : AlphaFigure} → GoodAlpha last a → only (ltb 0 (held_alpha a)) 1 ≡ alpha_lines a
held_counted GoodAlpha.not_given = refl
held_counted (GoodAlpha.given {A} l m f) = rw (lt-ltb 0 A l)

-- the alpha of task i + 1
abbrev pub alpha_for : List TaskFigures → ℕ → ℕ
alpha_for xs i = (task_for xs i).alpha

pub counted : {last : ℕ} {xs : List TaskFigures} → GoodTasks last xs → count_to (length xs) (λ i. ltb 0 (alpha_for xs i)) ≡ alphas_of xs
unfolding sum_to task_of
counted GoodTasks.no_tasks = refl
counted (GoodTasks.one_task {x = x} {xs} g a r) =
    sum_first (length xs) (λ i. only (ltb 0 (alpha_for (x ∷ xs) i)) 1) ∙ rw (held_counted a, counted r)

pub falls : {last : ℕ} {xs : List TaskFigures} (i : ℕ) → GoodTasks last xs → suc i < length xs → 1 ≤ alpha_for xs i → alpha_for xs (suc i) ≤ alpha_for xs i
unfolding task_of
falls i GoodTasks.no_tasks h l = absurd (omega arith)
falls (suc i) (GoodTasks.one_task g a r) h l = falls i r (omega arith) l
falls zero (GoodTasks.one_task {x = x} g a GoodTasks.no_tasks) h l = absurd (omega arith)
falls {last} zero (GoodTasks.one_task {x = x} g a (GoodTasks.one_task {x = y} k b r)) h l = go x.alpha y.alpha b l
  where
    go : (u v : AlphaFigure) → GoodAlpha (last_with last u) v → 1 ≤ held_alpha u → held_alpha v ≤ held_alpha u
    go no_alpha v b l = absurd (omega arith)
    go (alpha_of A) no_alpha b l = omega arith
    go (alpha_of A) (alpha_of B) (GoodAlpha.given m n (inl e)) l = absurd (omega arith)
    go (alpha_of A) (alpha_of B) (GoodAlpha.given m n (inr f)) l = f
