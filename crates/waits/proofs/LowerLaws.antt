-- The numbers of the tasks below i: those for another resource than k are the c of the definition, in its order, and of each task at most one is for k.
-- Assumes nothing.
use Prim.Native.Nat.{ℕ, zero, suc, ◌+◌, ◌-◌, ◌/◌, ◌%◌, ◌≤◌, ◌<◌}
use mathlib.Core.Path.{◌≡◌, refl, sym, ap, ◌∙◌}
use mathlib.Core.Bool.{Bool, true, false, ◌&&◌, not}
use mathlib.Core.List.{List, [], ◌∷◌}
use native.Mathlib.Nat.{le_refl}
use native.Mathlib.Omega.{arith}
use borrow.Author.Tests.{leb-true, ne_eqb}
use lib.Dec.{eqb, leb, ltb, leb-suc-suc, eqb-suc-suc}
use lib.ListN.{length}
use Rattle.basics.specs.Choice.{pick, only}
use Rattle.basics.specs.Over.{sum_to, join_to}
use Rattle.basics.proofs.SumLaws.{sum_le, sum_add, sum_one}
use Rattle.basics.proofs.JoinLaws.{join_length, join_eq, join_through}
use Rattle.table.specs.declared.Task.{Task}
use Rattle.table.specs.declared.Table.{Table}
use Rattle.table.specs.Limits.{max_resources}
use Rattle.table.specs.At.{task_at, pair_of}
use Rattle.theory.specs.View.{level, resource}
use Rattle.theory.specs.Tables.{view_of}
use Rattle.waits.specs.Wait.{others_of, others_below}
use Rattle.waits.specs.Kept.{key_slots, key_of, key_at, keys_of, keys_from, others_kept}
use Rattle.waits.proofs.OthersLaws.{others_append}

-- ---- of one task

-- the c of the pair at slot j, if it is in use and not for the resource at slot k
abbrev other_at : Task → ℕ → ℕ → List ℕ
other_at x k j = pick (ltb 0 (pair_of x j).requests && not (eqb (suc j) (suc k))) ((pair_of x j).longest ∷ []) []

others_key : (x : Task) (k j : ℕ) → j < max_resources → others_kept k (key_at x j) ≡ other_at x k j
others_key x k j h = go (ltb 0 (pair_of x j).requests) (eqb j k) refl
  where
    c : ℕ
    c = (pair_of x j).longest

    slot : key_of c j % key_slots ≡ j
    slot = omega arith

    value : key_of c j / key_slots ≡ c
    value = omega arith

    go : (b t : Bool) → eqb j k ≡ t → others_kept k (pick b (key_of c j ∷ []) []) ≡ pick (b && not (eqb (suc j) (suc k))) (c ∷ []) []
    go false t e = refl
    go true true e = rw (slot, eqb-suc-suc j k, e)
    go true false e = rw (slot, eqb-suc-suc j k, e, value)

others_task : (x : Task) (k : ℕ) → others_kept k (keys_of x) ≡ join_to max_resources (other_at x k)
others_task x k =
    join_through (others_kept k) refl (others_append k) max_resources (key_at x) ∙ join_eq max_resources _ _ (λ j h. others_key x k j h)

-- at most one is for the resource at slot k
few_own : (x : Task) (k : ℕ) → k < max_resources → length (keys_of x) ≤ length (others_kept k (keys_of x)) + 1
few_own x k h =
    let g : ℕ → ℕ = λ j. length (key_at x j) in
    let o : ℕ → ℕ = λ j. length (other_at x k j) in
    omega (
      arith,
      join_length max_resources (key_at x),
      ap length (others_task x k),
      join_length max_resources (other_at x k),
      sum_one max_resources k g o h (λ j d. same j d (ltb 0 (pair_of x j).requests)),
      one (ltb 0 (pair_of x k).requests),
    )
  where
    same : (j : ℕ) → (j ≡ k → ⊥) → (b : Bool)
        → length (pick b (key_of (pair_of x j).longest j ∷ []) []) ≡ length (pick (b && not (eqb (suc j) (suc k))) ((pair_of x j).longest ∷ []) [])
    same j d true = rw (eqb-suc-suc j k, ne_eqb j k d)
    same j d false = refl

    one : (b : Bool) → length (pick b (key_of (pair_of x k).longest k ∷ []) []) ≤ 1
    one true = le_refl 1
    one false = omega arith

-- ---- of the tasks below i

pub others_below_lem : (t : Table) (i k : ℕ) → others_kept k (keys_from t (suc i)) ≡ others_below (view_of t) (level i) (resource k)
unfolding others_of others_below
others_below_lem t i k =
    join_through (others_kept k) refl (others_append k) t.n _
    ∙ join_eq t.n _ _ (λ l h. go l (leb (suc i) l) ∙ ap (λ (b : Bool). pick b (join_to max_resources (other_at (task_at t l) k)) []) (sym (leb-suc-suc (suc i) l)))
  where
    go : (l : ℕ) (b : Bool) → others_kept k (pick b (keys_of (task_at t l)) []) ≡ pick b (join_to max_resources (other_at (task_at t l) k)) []
    go l true = others_task (task_at t l) k
    go l false = refl

tasks_from : (n i : ℕ) → sum_to n (λ l. only (leb i l) 1) ≤ n - i
unfolding sum_to
tasks_from zero i = omega arith
tasks_from (suc n) i = go (leb i n) refl (tasks_from n i)
  where
    go : (b : Bool) → leb i n ≡ b → sum_to n (λ l. only (leb i l) 1) ≤ n - i → sum_to n (λ l. only (leb i l) 1) + only b 1 ≤ suc n - i
    go true e h = omega (arith, leb-true i n e)
    go false e h = omega arith

pub few_below : (t : Table) (i k : ℕ) → k < max_resources → length (keys_from t i) ≤ length (others_kept k (keys_from t i)) + (t.n - i)
few_below t i k h =
    omega (
      arith,
      join_length t.n keys,
      ap length (join_through (others_kept k) refl (others_append k) t.n keys),
      join_length t.n (λ l. others_kept k (keys l)),
      sum_le t.n _ _ (λ l _. go l (leb i l)),
      sum_add t.n (λ l. length (others_kept k (keys l))) (λ l. only (leb i l) 1),
      tasks_from t.n i,
    )
  where
    keys : ℕ → List ℕ
    keys l = pick (leb i l) (keys_of (task_at t l)) []

    go : (l : ℕ) (b : Bool) → length (pick b (keys_of (task_at t l)) []) ≤ length (others_kept k (pick b (keys_of (task_at t l)) [])) + only b 1
    go l true = few_own (task_at t l) k h
    go l false = le_refl 0
