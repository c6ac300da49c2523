-- The blocks left: how many they are, and where the one with a number is, if they are complete.
-- Assumes nothing.
use Prim.Native.Nat.{ℕ, ◌+◌, ◌≤◌, ◌<◌}
use mathlib.Core.Path.{◌≡◌, refl, sym, ◌∙◌}
use mathlib.Core.Bool.{Bool, true, false, ◌&&◌}
use mathlib.Core.List.{List}
use native.Mathlib.Omega.{arith}
use borrow.Author.Tests.{eqb-true, ltb-true}
use lib.ListN.{length}
use lib.Dec.{leb, ltb, eqb}
use Rattle.basics.specs.Choice.{pick, only, within}
use Rattle.basics.specs.Over.{sum_to, row_to}
use Rattle.basics.proofs.ChoiceLaws.{and_true, only_below}
use Rattle.basics.proofs.AllLaws.{all_at}
use Rattle.basics.proofs.SumLaws.{sum_eq, sum_bound}
use Rattle.basics.proofs.RowLaws.{row_length, row_at}
use Rattle.block.specs.declared.Head.{Head}
use Rattle.block.specs.Block.{head_in}
use Rattle.card.specs.Archive.{block_at}
use Rattle.salvaging.specs.Fates.{number_on}
use Rattle.salvaging.specs.Salvage.{left_at, left_in, head_left, joins, may_join, all_join, left_with, how_many, each_once, is_complete, place_of, Placed}
use Rattle.basics.proofs.CountLaws.{count_some, sum_ones, sum_swap, count_number}

-- those of a list that was filled with codes
pub left_row : (k : ℕ) (g : ℕ → ℕ) → left_in (row_to k g) ≡ sum_to k (λ i. only (leb 2 (g i)) 1)
unfolding left_in
left_row k g = rw (row_length k g) (sum_eq k (λ i. only (left_at (row_to k g) i) 1) (λ i. only (leb 2 (g i)) 1) (λ i h. rw (row_at k i g 0 h)))

pub left_most : (list : List ℕ) → left_in list ≤ length list
unfolding left_in
left_most list = omega (arith, sum_bound (length list) 1 (λ i. only (left_at list i) 1) (λ i h. only_below (left_at list i) 1))

module _ (s list : List ℕ) (e : is_complete s list ≡ true) where
  abbrev first : Head
  first = head_left s list

  -- there is one
  pub complete_some : 0 < left_in list
  unfolding is_complete
  complete_some = ltb-true 0 (left_in list) (and_true (ltb 0 (left_in list)) (all_join s list first) (and_true (ltb 0 (left_in list) && all_join s list first) (each_once s list first.n) e).0).0

  join : all_join s list first ≡ true
  unfolding is_complete
  join = (and_true (ltb 0 (left_in list)) (all_join s list first) (and_true (ltb 0 (left_in list) && all_join s list first) (each_once s list first.n) e).0).1

  once : (p : ℕ) → p < first.n → how_many s list (p + 1) ≡ 1
  unfolding is_complete each_once
  once p h = eqb-true _ _ (all_at first.n p (λ p. eqb (how_many s list (p + 1)) 1) (and_true (ltb 0 (left_in list) && all_join s list first) (each_once s list first.n) e).1 h)

  -- one that is left has a number from 1 to n
  numbered : (i : ℕ) → i < length list → only (left_at list i) 1 ≡ only (left_at list i && within 1 first.n (number_on s i)) 1
  unfolding all_join joins
  numbered i h = go (left_at list i) (all_at (length list) i (may_join s list first) join h)
    where
      go : (b : Bool) → pick b (joins first (head_in (block_at s i))) true ≡ true → only b 1 ≡ only (b && within 1 first.n (number_on s i)) 1
      go true q = rw (and_true (eqb (head_in (block_at s i)).cpus first.cpus && eqb (head_in (block_at s i)).n first.n) (within 1 first.n (number_on s i)) q).1
      go false q = refl

  -- so there are n
  pub complete_left : left_in list ≡ first.n
  unfolding left_in how_many
  complete_left =
      let n = first.n in
      sum_eq (length list) (λ i. only (left_at list i) 1) (λ i. sum_to n (λ p. only (left_at list i && eqb (number_on s i) (p + 1)) 1))
      (λ i h. numbered i h ∙ sym (count_number n (number_on s i) (left_at list i)))
      ∙ sum_swap (length list) n (λ i p. only (left_at list i && eqb (number_on s i) (p + 1)) 1)
      ∙ sum_eq n (λ p. how_many s list (p + 1)) (λ _. 1) once
      ∙ sum_ones n

  -- and each number up to there is somewhere
  pub complete_placed : Placed s list (left_in list)
  unfolding place_of how_many
  complete_placed p h = count_some (length list) (left_with s list (p + 1)) (omega (arith, once p (omega (arith, complete_left))))
