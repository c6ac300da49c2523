-- What the pass over the tasks, from the lowest up, has after those from slot i on: their longest requests, and their waits.
-- Assumes nothing.
use Prim.Native.Nat.{ℕ, suc, ◌+◌, ◌-◌, ◌*◌, ◌≤◌, ◌<◌}
use mathlib.Core.Path.{◌≡◌, refl, sym, ap, ◌∙◌}
use mathlib.Core.List.{List, [], ◌++◌}
use native.Mathlib.Nat.{le_refl, le_trans}
use native.Mathlib.Omega.{arith}
use borrow.Author.Tests.{lt-ltb, le-ltb}
use lib.Dec.{leb}
use lib.ListN.{length, take, set}
use Rattle.basics.specs.Choice.{pick, only}
use Rattle.basics.specs.Over.{row_to}
use Rattle.basics.specs.Largest.{falling, sum_of, sum_largest}
use Rattle.basics.proofs.SumLaws.{sum_eq, sum_part}
use Rattle.basics.proofs.JoinLaws.{join_past, join_rest}
use Rattle.basics.proofs.RowLaws.{back_none, back_more}
use Rattle.basics.proofs.FallingLaws.{falling_length}
use Rattle.table.specs.declared.Table.{Table}
use Rattle.table.specs.Limits.{max_tasks, max_resources, max_alpha}
use Rattle.table.specs.At.{task_at, alpha_at, pair_at}
use Rattle.theory.specs.View.{level, resource, uses}
use Rattle.theory.specs.Groups.{InBounds}
use Rattle.theory.specs.Tables.{view_of}
use Rattle.waits.specs.Wait.{others_below, wait_of}
use Rattle.waits.specs.Answers.{no_waits}
use Rattle.waits.specs.Kept.{max_kept, keys_of, keys_from, InLimits, KeptRow, KeptWith, others_kept, sum_others, wait_with, slot_wait_by}
use Rattle.waits.proofs.KeptLaws.{each_falling, kept_both}
use Rattle.waits.proofs.OthersLaws.{others_falling, others_take}
use Rattle.waits.proofs.LowerLaws.{others_below_lem, few_below}

-- ---- the longest requests: the first n of a row

abbrev pub KeptFrom : Table → ℕ → ℕ → List ℕ → Type 0
KeptFrom t i n kept = KeptWith (keys_from t i) [] 0 n kept

pub from_none : (t : Table) {n : ℕ} {kept : List ℕ} → KeptRow kept n → n ≡ 0 → KeptFrom t t.n n kept
from_none t {n} {kept} k e = rw (join_past t.n t.n (λ j. keys_of (task_at t j)) (le_refl t.n), e) (record { long = k.long; few = omega arith; first = refl })

pub from_more : (t : Table) (i : ℕ) {n r : ℕ} {kept exit : List ℕ} → 0 < i → i ≤ t.n → KeptFrom t i n kept → KeptWith (keys_of (task_at t (i - 1))) kept n r exit
    → KeptFrom t (i - 1) r exit
from_more t i h l was more =
    let e : suc (i - 1) ≡ i = omega arith in
    let s : keys_from t (i - 1) ≡ keys_of (task_at t (i - 1)) ++ keys_from t i = join_rest t.n (i - 1) (λ j. keys_of (task_at t j)) (omega arith) ∙ rw e in
    rw s (kept_both was more)

-- ---- the waits

abbrev pub waits_from : Table → ℕ → List ℕ
waits_from t i = row_to max_tasks (λ l. pick (leb i l) (slot_wait_by t l) 0)

pub waits_none : (t : Table) → no_waits ≡ waits_from t t.n
waits_none t = back_none (slot_wait_by t) 0 max_tasks t.n (λ l h. rw (le-ltb l t.n h))

module _ (t : Table) (a : InBounds t) where
  pub in_limits : (i : ℕ) → i < t.n → InLimits (task_at t i)
  in_limits i h =
      record {
        requests = λ k q. le_trans (sum_part max_resources k (λ k. (pair_at t i k).requests) q) (a.task i h).requests;
        longest = (a.task i h).longest;
      }

  -- of those kept and of all, the A largest for another resource have one sum: at most 64 are summed, and at most 31 are left out
  sum_is : (i A n k : ℕ) (kept : List ℕ) → A ≤ max_alpha → k < max_resources → KeptFrom t (suc i) n kept
      → sum_others (take n kept) A k ≡ sum_largest A (others_below (view_of t) (level i) (resource k))
  unfolding sum_largest
  sum_is i A n k kept h q was =
      let E = keys_from t (suc i) in
      let f = others_falling k E in
      let few : A + length (falling E) ≤ max_kept + length (others_kept k (falling E)) = omega (
        arith,
        falling_length E,
        few_below t (suc i) k q,
        ap length f,
        falling_length (others_kept k E),
        a.tasks_most,
      ) in
      ap (λ (l : List ℕ). sum_of (take A (others_kept k l))) (was.first ∙ ap (take max_kept) (each_falling E))
      ∙ ap sum_of (others_take k A max_kept (falling E) few)
      ∙ ap (λ (l : List ℕ). sum_of (take A l)) (f ∙ ap falling (others_below_lem t i k))

  wait_is : (i A n : ℕ) (kept : List ℕ) → A ≤ max_alpha → KeptFrom t (suc i) n kept → wait_with (take n kept) A (task_at t i) ≡ wait_of (view_of t) A (level i)
  unfolding wait_of
  wait_is i A n kept h was =
      let v = view_of t in
      sum_eq max_resources _ _
      (λ k q. ap (λ (s : ℕ). only (uses v (level i) (resource k)) (v.N (level i) (resource k) * s)) (sum_is i A n k kept h q was))

  pub waits_more : (i : ℕ) {n w : ℕ} {kept waits : List ℕ} → 0 < i → i ≤ t.n → KeptFrom t i n kept
      → w ≡ wait_with (take n kept) (alpha_at t (i - 1)) (task_at t (i - 1)) → waits ≡ waits_from t i → set waits (i - 1) w ≡ waits_from t (i - 1)
  waits_more i {n} {w} {kept} {waits} h l was e p =
      let s : i ≡ suc (i - 1) = omega arith in
      let g : w ≡ slot_wait_by t (i - 1) =
      e
      ∙ wait_is (i - 1) (alpha_at t (i - 1)) n kept (a.task (i - 1) (omega arith)).alpha_most (rw (← s) was)
      ∙ sym (rw (lt-ltb (i - 1) t.n (omega arith)))
      in
      (λ j. set ((p ∙ ap (waits_from t) s) j) (i - 1) (g j)) ∙ back_more (slot_wait_by t) 0 max_tasks (i - 1) (omega (arith, a.tasks_most))
