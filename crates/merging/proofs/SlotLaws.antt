-- The merged pairs of a task, once the first n resources are passed: none at first, each added at its slot, and small enough to be added.
-- Assumes nothing.
use Prim.Native.Nat.{ℕ, ◌+◌, ◌*◌, ◌≤◌, ◌<◌, max}
use mathlib.Core.Path.{◌≡◌, refl, sym, ◌∙◌}
use mathlib.Core.List.{List}
use native.Mathlib.Decide.{ℕ_discrete}
use native.Mathlib.Nat.{le_trans}
use native.Mathlib.Omega.{arith}
use borrow.Author.Tests.{eq-eqb, ne_eqb}
use lib.Dec.{eqb}
use lib.ListN.{get_or, set, replicate, length-replicate, get_or-replicate, length-set}
use lib.Seq.{get_or-set_same, get_or-set_other}
use Rattle.basics.specs.Over.{sum_to, max_to, row_to}
use Rattle.basics.proofs.ChoiceLaws.{only_below}
use Rattle.basics.proofs.SumLaws.{sum_more, sum_bound}
use Rattle.basics.proofs.MaxLaws.{max_more}
use Rattle.basics.proofs.RowLaws.{row_length, row_at, row_is}
use Rattle.table.specs.declared.Pair.{Pair}
use Rattle.table.specs.declared.Task.{Task}
use Rattle.table.specs.Limits.{max_resources, max_time, max_count}
use Rattle.table.specs.Empty.{unused_pair}
use Rattle.table.specs.At.{a_pair, pair_of, total_of}
use Rattle.table.specs.Accepted.{GoodTask}
use Rattle.table.proofs.RuleLaws.{pair_bounds}
use Rattle.theory.specs.Merge.{slot_of, part_at}
use Rattle.theory.proofs.MergeLaws.{slot_below}

module _ (g : List ℕ) (x : Task) where
  -- the pair at slot k, of the first n resources
  abbrev pub part_to : ℕ → ℕ → Pair
  part_to n k =
      a_pair (sum_to n (part_at g k (λ j. (pair_of x j).requests))) (max_to n (part_at g k (λ j. (pair_of x j).longest))) (sum_to n (part_at g k (total_of x)))

  pub parts_none : replicate max_resources unused_pair ≡ row_to max_resources (part_to 0)
  unfolding sum_to max_to
  parts_none = row_is max_resources (part_to 0) unused_pair _ (length-replicate max_resources unused_pair) (λ k h. get_or-replicate max_resources k unused_pair unused_pair h)

  -- resource n at its slot
  abbrev pub added : ℕ → Pair
  added n =
      let p : Pair = part_to n (slot_of g n) in
      a_pair (p.requests + (pair_of x n).requests) (max p.longest (pair_of x n).longest) (p.total + (pair_of x n).total)

  at_own : (n : ℕ) (f : ℕ → ℕ) → part_at g (slot_of g n) f n ≡ f n
  at_own n f = rw (eq-eqb (slot_of g n) (slot_of g n) refl)

  at_other : (n k : ℕ) (f : ℕ → ℕ) → (k ≡ slot_of g n → ⊥) → part_at g k f n ≡ 0
  at_other n k f d = rw (ne_eqb (slot_of g n) k (λ e. d (sym e)))

  pub parts_more : (n : ℕ) → n < max_resources → set (row_to max_resources (part_to n)) (slot_of g n) (added n) ≡ row_to max_resources (part_to (n + 1))
  parts_more n h =
      row_is max_resources (part_to (n + 1)) unused_pair _ (length-set (row_to max_resources (part_to n)) (slot_of g n) (added n) ∙ row_length max_resources (part_to n))
      (λ k l. go k l (ℕ_discrete k (slot_of g n)))
    where
      sum_own : (f : ℕ → ℕ) → sum_to n (part_at g (slot_of g n) f) + f n ≡ sum_to (n + 1) (part_at g (slot_of g n) f)
      sum_own f = omega (arith, sum_more n (part_at g (slot_of g n) f), at_own n f)

      max_own : (f : ℕ → ℕ) → max (max_to n (part_at g (slot_of g n) f)) (f n) ≡ max_to (n + 1) (part_at g (slot_of g n) f)
      max_own f = omega (arith, max_more n (part_at g (slot_of g n) f), at_own n f)

      own : added n ≡ part_to (n + 1) (slot_of g n)
      own = λ j. record { requests = sum_own (λ j. (pair_of x j).requests) j; longest = max_own (λ j. (pair_of x j).longest) j; total = sum_own (total_of x) j }

      sum_other : (k : ℕ) (f : ℕ → ℕ) → (k ≡ slot_of g n → ⊥) → sum_to n (part_at g k f) ≡ sum_to (n + 1) (part_at g k f)
      sum_other k f d = omega (arith, sum_more n (part_at g k f), at_other n k f d)

      max_other : (k : ℕ) (f : ℕ → ℕ) → (k ≡ slot_of g n → ⊥) → max_to n (part_at g k f) ≡ max_to (n + 1) (part_at g k f)
      max_other k f d = omega (arith, max_more n (part_at g k f), at_other n k f d)

      other : (k : ℕ) → (k ≡ slot_of g n → ⊥) → part_to n k ≡ part_to (n + 1) k
      other k d =
          λ j. record { requests = sum_other k (λ j. (pair_of x j).requests) d j; longest = max_other k (λ j. (pair_of x j).longest) d j; total = sum_other k (total_of x) d j }

      go : (k : ℕ) → k < max_resources → Dec (k ≡ slot_of g n) → get_or (set (row_to max_resources (part_to n)) (slot_of g n) (added n)) k unused_pair ≡ part_to (n + 1) k
      go k l (yes e) =
          rw e (get_or-set_same (row_to max_resources (part_to n)) (slot_of g n) (added n) unused_pair (omega (arith, row_length max_resources (part_to n), slot_below g n h)) ∙ own)
      go k l (no d) =
          get_or-set_other (row_to max_resources (part_to n)) (slot_of g n) k (added n) unused_pair d ∙ row_at max_resources k (part_to n) unused_pair l ∙ other k d

  -- ---- of a task that nothing is said against: what is added fits

  module _ (good : GoodTask x) where
    requests_most : (n k : ℕ) → n ≤ max_resources → (part_to n k).requests ≤ n * max_count
    requests_most n k h =
        sum_bound n max_count _ (λ j l. le_trans (only_below (eqb (slot_of g j) k) _) (pair_bounds (pair_of x j) (good.pair j (omega arith))).requests_most)

    total_most : (n k : ℕ) → n ≤ max_resources → (part_to n k).total ≤ n * max_time
    total_most n k h =
        sum_bound n max_time _ (λ j l. le_trans (only_below (eqb (slot_of g j) k) _) (pair_bounds (pair_of x j) (good.pair j (omega arith))).total_most)

    pub added_fits : (n : ℕ) → n < max_resources → ((added n).requests ≤ max_resources * max_count) × ((added n).total ≤ max_resources * max_time)
    added_fits n h =
        let b = pair_bounds (pair_of x n) (good.pair n h) in (
          omega (arith, requests_most n (slot_of g n) (omega arith), b.requests_most),
          omega (arith, total_most n (slot_of g n) (omega arith), b.total_most),
        )
