-- How many blocks are left and where each is, by a list, whatever list it is.
-- Assumes nothing.
use Prim.Native.Nat.{ℕ, ◌+◌, ◌≤◌, ◌<◌}
use mathlib.Core.Path.{◌≡◌}
use mathlib.Core.Bool.{true, ◌&&◌}
use mathlib.Core.List.{List}
use borrow.Author.Tests.{ltb-true, lt-ltb, eqb-true, eq-eqb}
use lib.Dec.{ltb, eqb}
use lib.ListN.{length}
use Rattle.basics.specs.Choice.{within}
use Rattle.basics.proofs.ChoiceLaws.{and_true, within_in, within_true}
use Rattle.basics.proofs.AllLaws.{all_at, all_hold}
use Rattle.basics.proofs.FirstIndexLaws.{first_is}
use Rattle.block.specs.declared.Head.{Head}
use Rattle.block.specs.Block.{head_in}
use Rattle.card.specs.Archive.{block_at}
use Rattle.basics.proofs.CountLaws.{count_some}
use Rattle.salvaging.proofs.LeftLaws.{complete_left}
use Rattle.salvaging.specs.Salvage.{left_at, left_in, first_left, head_left, joins, may_join, all_join, left_with, how_many, each_once, is_complete, place_of}
use Rattle.basics.proofs.OnceLaws.{and_both, pick_is, is_pick, some_count, Once, first_once, count_once, once_count}

-- ---- the blocks left, of a list

pub joins_is : (first h : Head) → joins first h ≡ true → (h.cpus ≡ first.cpus) × (h.n ≡ first.n) × (1 ≤ h.number) × (h.number ≤ first.n)
unfolding joins
joins_is first h e =
    let p = and_true (eqb h.cpus first.cpus && eqb h.n first.n) (within 1 first.n h.number) e in
    let q = and_true (eqb h.cpus first.cpus) (eqb h.n first.n) p.0 in
    let w = within_true 1 first.n h.number p.1 in
    (eqb-true _ _ q.0, eqb-true _ _ q.1, w.0, w.1)

pub is_joins : (first h : Head) → h.cpus ≡ first.cpus → h.n ≡ first.n → 1 ≤ h.number → h.number ≤ first.n → joins first h ≡ true
unfolding joins
is_joins first h c n l m = rw (eq-eqb h.cpus first.cpus c, eq-eqb h.n first.n n, within_in 1 first.n h.number l m)

-- what makes them complete, as facts
pub record Completes (s list : List ℕ) : Type 0 where
  pub below : first_left list < length list
  pub join : (i : ℕ) → i < length list → left_at list i ≡ true → joins (head_left s list) (head_in (block_at s i)) ≡ true
  pub once : (p : ℕ) → p < (head_left s list).n → (i : ℕ) × Once (length list) (left_with s list (p + 1)) i

module _ (s list : List ℕ) where
  pub completes_is : is_complete s list ≡ true → Completes s list
  unfolding is_complete left_in first_left all_join each_once how_many
  completes_is e =
      let n : ℕ = (head_left s list).n in
      let p = and_true (ltb 0 (left_in list) && all_join s list (head_left s list)) (each_once s list n) e in
      let q = and_true (ltb 0 (left_in list)) (all_join s list (head_left s list)) p.0 in
      record {
        below = count_some (length list) (left_at list) (ltb-true _ _ q.0);
        join = λ i h. pick_is (left_at list i) _ (all_at (length list) i (may_join s list (head_left s list)) q.1 h);
        once = λ k h. once_count (length list) (left_with s list (k + 1)) (eqb-true _ _ (all_at n k (λ j. eqb (how_many s list (j + 1)) 1) p.1 h));
      }

  pub is_completes : Completes s list → is_complete s list ≡ true
  unfolding is_complete left_in first_left all_join each_once how_many
  is_completes c =
      let n : ℕ = (head_left s list).n in
      let x = lt-ltb _ _ (some_count (length list) (first_left list) (left_at list) c.below ((first_is (length list) (left_at list)).found c.below)) in
      let y = all_hold (length list) (may_join s list (head_left s list)) (λ i h. is_pick (left_at list i) _ (c.join i h)) in
      let o : (k : ℕ) → k < n → how_many s list (k + 1) ≡ 1 = λ k h. count_once (length list) (c.once k h).0 (left_with s list (k + 1)) (c.once k h).1 in
      let z = all_hold n (λ k. eqb (how_many s list (k + 1)) 1) (λ k h. eq-eqb _ _ (o k h)) in
      and_both _ _ (and_both _ _ x y) z

  -- as many are left as the first of them says
  pub count_left : Completes s list → left_in list ≡ (head_left s list).n
  count_left c = complete_left s list (is_completes c)

  -- and the one with each number is where it is looked for
  pub place_once : Completes s list → (p : ℕ) → p < (head_left s list).n → Once (length list) (left_with s list (p + 1)) (place_of s list (p + 1))
  unfolding place_of
  place_once c p h =
      let o = c.once p h in
      rw (first_once (length list) o.0 (left_with s list (p + 1)) o.1) o.1
