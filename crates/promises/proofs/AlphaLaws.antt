-- What does not read alpha, and what a wait reads of a table.
-- Assumes nothing.
use Prim.Native.Nat.{ℕ, ◌+◌, ◌-◌, ◌*◌, ◌≤◌, ◌<◌, pred}
use mathlib.Core.Path.{◌≡◌, refl, sym, ap, ◌∙◌}
use mathlib.Core.Bool.{Bool, true, false}
use mathlib.Core.List.{List, [], ◌∷◌, map, map-append, append-nil}
use native.Mathlib.Omega.{arith}
use lib.Dec.{ltb}
use native.Mathlib.Nat.{mul-le-mul_left}
use lib.ListN.{length, get_or}
use lib.Seq.{get_or-append-add}
use Rattle.basics.specs.Over.{row_to}
use Rattle.basics.proofs.RowLaws.{row_length}
use Rattle.basics.specs.Choice.{pick, only}
use Rattle.basics.specs.Largest.{sum_of}
use Rattle.basics.proofs.ChoiceLaws.{only_le}
use Rattle.basics.proofs.SumLaws.{sum_le, sum_eq}
use Rattle.basics.proofs.JoinLaws.{join_eq, join_through}
use Rattle.basics.proofs.LargestLaws.{largest_more, largest_all}
use Rattle.table.specs.declared.Level.{Level}
use Rattle.table.specs.declared.Task.{Task}
use Rattle.table.specs.declared.Table.{Table}
use Rattle.table.specs.Limits.{max_tasks, max_resources}
use Rattle.table.specs.Empty.{empty_task}
use Rattle.table.specs.At.{no_task, task_at, pair_of, with_alpha, SameTask}
use Rattle.table.specs.Without.{without_alpha, SameButAlpha}
use Rattle.table.proofs.Sameness.{same_group}
use Rattle.table.proofs.WithoutLaws.{without_at}
use Rattle.theory.specs.View.{View, level, resource, over_resources, is_above, uses}
use Rattle.table.specs.Rules.{has_group}
use Rattle.theory.specs.Merge.{merged_pair, merged_task, grouped_tasks, merged_tasks, merged}
use Rattle.theory.specs.Tables.{view_of, merged_view}
use Rattle.waits.specs.Wait.{others_of, others_below, wait_of}
use Rattle.promises.specs.Reads.{Unchanged}
use Rattle.promises.proofs.MergedLaws.{AlikeTask, alike_unchanged, slots_equal}

-- ---- what does not read alpha

-- the merged pairs of a table without its alphas are those of the table, without its alphas
tasks_without : (t : Table) → merged_tasks (without_alpha t) ≡ map (with_alpha 0) (merged_tasks t)
unfolding without_alpha merged_tasks grouped_tasks merged_task merged_pair empty_task
tasks_without t = go (has_group t.groups)
  where
    row : ℕ → Task
    row i = pick (ltb i t.n) (merged_task t.groups (task_at t i)) empty_task

    each : (i : ℕ) (b : Bool) → pick b (merged_task t.groups (task_at (without_alpha t) i)) empty_task ≡ with_alpha 0 (pick b (merged_task t.groups (task_at t i)) empty_task)
    each i true = ap (merged_task t.groups) (without_at t i)
    each i false = refl

    go : (b : Bool) → pick b (grouped_tasks (without_alpha t)) (map (with_alpha 0) t.tasks) ≡ map (with_alpha 0) (pick b (grouped_tasks t) t.tasks)
    go true =
        sym (join_through (map (with_alpha 0)) refl (map-append (with_alpha 0)) max_tasks (λ i. row i ∷ [])
        ∙ join_eq max_tasks _ _ (λ i h. ap (λ (x : Task). x ∷ []) (sym (each i (ltb i t.n)))))
    go false = refl

view_without : (t : Table) → view_of (without_alpha t) ≡ view_of t
unfolding without_alpha
view_without t =
    let x : (i : ℕ) → task_at (without_alpha t) i ≡ with_alpha 0 (task_at t i) = without_at t in
    λ j. record {
      cpus = t.cpus;
      n = t.n;
      T = λ i. (x (pred i.0) j).period;
      C = λ i. (x (pred i.0) j).run;
      D = λ i. (x (pred i.0) j).deadline;
      N = λ i k. (pair_of (x (pred i.0) j) (pred k.0)).requests;
      c = λ i k. (pair_of (x (pred i.0) j) (pred k.0)).longest;
      CT = λ i k. (pair_of (x (pred i.0) j) (pred k.0)).total;
    }

pub unread : (t : Table) → merged_view (without_alpha t) ≡ merged_view t
unfolding without_alpha
unread t =
    (λ j. view_of (record { cpus = t.cpus; n = t.n; groups = (merged t).groups; tasks = tasks_without t j })) ∙ view_without (merged t)

module _ (a b : Table) (same : SameButAlpha a b) where
  alike : (i : ℕ) → i < a.n → AlikeTask (task_at a i) (task_at b i)
  unfolding without_alpha
  alike i h =
      let s : SameTask (with_alpha 0 (task_at a i)) (with_alpha 0 (task_at b i)) = rw (without_at a i, without_at b i) at (same.tasks i h) in
      record { period = sym s.period; run = sym s.run; deadline = sym s.deadline; pairs = λ k m. sym (s.pairs k m) }

  -- past the last slot of a table, which no accepted one has a task at, nothing is merged, or there is no task
  past : (i : ℕ) → max_tasks ≤ i → i < a.n → AlikeTask (task_at (merged a) i) (task_at (merged b) i)
  unfolding without_alpha merged_tasks grouped_tasks
  past i l h = go (has_group a.groups) (has_group b.groups) (same_group (without_alpha a) (without_alpha b) same)
    where
      at_end : (f : ℕ → Task) → get_or (row_to max_tasks f) i no_task ≡ no_task
      at_end f =
          let e : i ≡ length (row_to max_tasks f) + (i - max_tasks) = omega (arith, row_length max_tasks f) in
          (λ j. get_or (sym (append-nil (row_to max_tasks f)) j) (e j) no_task) ∙ get_or-append-add (row_to max_tasks f) [] (i - max_tasks) no_task

      none : AlikeTask no_task no_task
      none = record { period = refl; run = refl; deadline = refl; pairs = λ k m. refl }

      go : (x y : Bool) → x ≡ y → AlikeTask (get_or (pick x (grouped_tasks a) a.tasks) i no_task) (get_or (pick y (grouped_tasks b) b.tasks) i no_task)
      go x true e = rw (e, at_end, at_end) none
      go x false e = rw e (alike i h)

  pub unchanged : (runs : Level → Type 0) → Unchanged (λ l. Unit) runs (merged_view a) (merged_view b)
  unfolding without_alpha
  unchanged = alike_unchanged a b (sym same.cpus) (sym same.n) alike (slots_equal a b same.groups) past

-- ---- the wait

module _ (v w : View) (same : Unchanged (λ l. Unit) (λ l. Unit) v w) where
  uses_same : (l k : ℕ) → l < v.n → k < max_resources → uses w (level l) (resource k) ≡ uses v (level l) (resource k)
  uses_same l k h m = rw (same.N l k h m tt)

  others_same : (i : Level) (k : ℕ) → others_below w i (resource k) ≡ others_below v i (resource k)
  unfolding others_below others_of
  others_same i k =
      rw same.n
      (join_eq v.n _ _ (λ l h. ap (λ (z : List ℕ). pick (is_above i (level l)) z []) (join_eq max_resources _ _ (λ j m. rw (uses_same l j h m, same.c l j h m tt)))))

-- with no smaller an alpha the wait is no smaller
pub wait_more : (v : View) (A B : ℕ) (i : Level) → A ≤ B → wait_of v A i ≤ wait_of v B i
unfolding wait_of
wait_more v A B i h =
    sum_le max_resources _ _ (λ k m.
    only_le (uses v i (resource k)) (uses v i (resource k)) _ _ refl (mul-le-mul_left (v.N i (resource k)) (largest_more A B (others_below v i (resource k)) h)))

pub wait_same : (v w : View) → Unchanged (λ l. Unit) (λ l. Unit) v w → (A i : ℕ) → i < v.n → wait_of w A (level i) ≡ wait_of v A (level i)
unfolding wait_of
wait_same v w same A i h = sum_eq max_resources _ _ (λ k m. rw (uses_same v w same i k h m, same.N i k h m tt, others_same v w same (level i) k))

pub of_all : (v : View) (A : ℕ) (i : Level) → ((k : ℕ) → k < max_resources → length (others_below v i (resource k)) ≤ A)
    → wait_of v A i ≡ over_resources (λ k. only (uses v i k) (v.N i k * sum_of (others_below v i k)))
unfolding wait_of
of_all v A i few = sum_eq max_resources _ _ (λ k m. rw (largest_all A (others_below v i (resource k)) (few k m)))
