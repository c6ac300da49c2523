-- The blocks left are complete, as a test and as a fact; and the archive that is made of them.
-- Assumes nothing.
use Prim.Native.Nat.{ℕ, ◌+◌, ◌-◌, ◌*◌, ◌≤◌, ◌<◌}
use mathlib.Core.Path.{◌≡◌, refl, sym, ap, ◌∙◌}
use mathlib.Core.Bool.{true}
use mathlib.Core.List.{List}
use native.Mathlib.Omega.{arith}
use borrow.Author.Tests.{eqb-true, eq-eqb}
use lib.Dec.{eqb}
use lib.ListN.{length}
use Rattle.basics.proofs.ChoiceLaws.{and_true}
use Rattle.basics.proofs.FirstIndexLaws.{first_is}
use Rattle.basics.specs.Exactly.{◌exactly_if◌}
use Rattle.basics.proofs.JoinLaws.{join_eq}
use Rattle.block.specs.Numbers.{byte_at}
use Rattle.block.specs.Block.{head_in}
use Rattle.card.specs.Archive.{block_at, blocks_in}
use Rattle.release.proofs.Parts.{parts_joined}
use Rattle.salvaging.specs.Fates.{number_on, codes_of}
use Rattle.salvaging.specs.Salvage.{left_at, left_in, first_left, head_left, joins, left_with, is_complete, place_of, Placed, in_order, mended}
use Rattle.salvaging.proofs.MendLaws.{order_long, order_at}
use Rattle.salvaging.proofs.FoundLaws.{codes_length}
use Rattle.recovery.specs.Refusals.{WholeCard, Left, Complete, Ordered}
use Rattle.basics.proofs.OnceLaws.{and_both, first_below, Once}
use Rattle.recovery.proofs.CountLaws.{joins_is, is_joins, Completes, completes_is, is_completes, count_left, place_once}
use Rattle.recovery.proofs.LeftLaws.{number_is, left_is, is_left}
use Rattle.recovery.proofs.CardLaws.{card_blocks}

-- where the block with the number p + 1 is, of those left
abbrev pub place_in : List ℕ → ℕ → ℕ
place_in s p = place_of s (codes_of s) (p + 1)

-- ---- from the test

module _ (s : List ℕ) where
  -- the first that is left
  first_left_lem : first_left (codes_of s) < length (codes_of s) → Left s (first_left (codes_of s))
  unfolding first_left
  first_left_lem h = left_is s (first_left (codes_of s)) (omega (arith, codes_length s)) ((first_is (length (codes_of s)) (left_at (codes_of s))).found h)

  -- one that is left and has a number
  with_is : (i p : ℕ) → i < blocks_in s → left_with s (codes_of s) p i ≡ true → Left s i × (byte_at (block_at s i) 5 ≡ p)
  with_is i p h e =
      let q = and_true (left_at (codes_of s) i) (eqb (number_on s i) p) e in
      (left_is s i h q.0, sym (number_is s i) ∙ eqb-true _ _ q.1)

  is_with : (i p : ℕ) → i < blocks_in s → Left s i → byte_at (block_at s i) 5 ≡ p → left_with s (codes_of s) p i ≡ true
  is_with i p h l e = and_both _ _ (is_left s i h l) (eq-eqb _ _ (number_is s i ∙ e))

  module _ (c : Completes s (codes_of s)) where
    joined : (i : ℕ) → i < blocks_in s → Left s i
        → (byte_at (block_at s i) 3 ≡ byte_at (block_at s (first_left (codes_of s))) 3) × (byte_at (block_at s i) 4 ≡ (head_left s (codes_of s)).n)
        × (1 ≤ byte_at (block_at s i) 5) × (byte_at (block_at s i) 5 ≤ (head_left s (codes_of s)).n)
    unfolding head_in
    joined i h l = joins_is (head_left s (codes_of s)) (head_in (block_at s i)) (c.join i (omega (arith, codes_length s)) (is_left s i h l))

    each_is : (p : ℕ) → 1 ≤ p → p ≤ (head_left s (codes_of s)).n → (i : ℕ) × (i < blocks_in s) × Left s i × (byte_at (block_at s i) 5 ≡ p)
    each_is p l m =
        let e : p - 1 + 1 ≡ p = omega arith in
        let o = c.once (p - 1) (omega arith) in
        let h : o.0 < blocks_in s = omega (arith, o.1.below, codes_length s) in
        let w = with_is o.0 (p - 1 + 1) h o.1.holds in
        (o.0, h, w.0, w.1 ∙ e)

    once_is : (i j : ℕ) → i < blocks_in s → j < blocks_in s → Left s i → Left s j → byte_at (block_at s i) 5 ≡ byte_at (block_at s j) 5 → i ≡ j
    once_is i j h k l m e =
        let p : ℕ = byte_at (block_at s i) 5 in
        let b = joined i h l in
        let d : p - 1 + 1 ≡ p = omega (arith, b.2) in
        let o = c.once (p - 1) (omega (arith, b.2, b.3)) in
        let w = codes_length s in
        o.1.alone i (omega arith) (rw d (is_with i p h l refl)) ∙ sym (o.1.alone j (omega arith) (rw d (is_with j p k m (sym e))))

    completes_complete : Complete s (blocks_in s) (head_left s (codes_of s)).n
    completes_complete =
        record {
          some = (first_left (codes_of s), omega (arith, c.below, codes_length s), first_left_lem c.below);
          cpus = λ i j h k l m. (joined i h l).0 ∙ sym (joined j k m).0;
          tasks = λ i h l. (joined i h l).1;
          numbers = λ i h l. let b = joined i h l in (b.2, b.3);
          each = each_is;
          once = once_is;
        }

  pub complete_is : is_complete s (codes_of s) ≡ true → Complete s (blocks_in s) (head_left s (codes_of s)).n
  complete_is e = completes_complete (completes_is s (codes_of s) e)

-- ---- from the fact

module _ (s : List ℕ) (n : ℕ) (c : Complete s (blocks_in s) n) where
  some_first : first_left (codes_of s) < length (codes_of s)
  unfolding first_left
  some_first =
      let x = c.some in
      let h : x.0 < length (codes_of s) = omega (arith, x.1, codes_length s) in
      first_below (length (codes_of s)) x.0 (left_at (codes_of s)) h (is_left s x.0 x.1 x.2)

  first_in : first_left (codes_of s) < blocks_in s
  first_in = omega (arith, some_first, codes_length s)

  -- it says how many there are
  head_n : (head_left s (codes_of s)).n ≡ n
  unfolding head_in
  head_n = c.tasks (first_left (codes_of s)) first_in (first_left_lem s some_first)

  all_join : (i : ℕ) → i < blocks_in s → Left s i → joins (head_left s (codes_of s)) (head_in (block_at s i)) ≡ true
  unfolding head_in
  all_join i h l =
      let b = c.numbers i h l in
      is_joins (head_left s (codes_of s)) (head_in (block_at s i))
      (c.cpus i (first_left (codes_of s)) h first_in l (first_left_lem s some_first))
      (c.tasks i h l ∙ sym head_n)
      b.0
      (rw head_n b.1)

  each_once_lem : (p : ℕ) → p < n → (i : ℕ) × Once (length (codes_of s)) (left_with s (codes_of s) (p + 1)) i
  each_once_lem p h =
      let x = c.each (p + 1) (omega arith) (omega arith) in
      let w = codes_length s in (
        x.0,
        record {
          below = omega (arith, x.1);
          holds = is_with s x.0 (p + 1) x.1 x.2 x.3;
          alone = λ j k e.
              let m : j < blocks_in s = omega arith in
              let y = with_is s j (p + 1) m e in
              c.once j x.0 m x.1 y.0 x.2 (y.1 ∙ sym x.3);
        },
      )

  complete_completes : Completes s (codes_of s)
  complete_completes =
      record {
        below = some_first;
        join = λ i h e. let k : i < blocks_in s = omega (arith, codes_length s) in all_join i k (left_is s i k e);
        once = λ p h. each_once_lem p (rw head_n at h);
      }

  pub is_complete_lem : is_complete s (codes_of s) ≡ true
  is_complete_lem = is_completes s (codes_of s) complete_completes

  count_is : left_in (codes_of s) ≡ n
  count_is = count_left s (codes_of s) complete_completes ∙ head_n

  -- ---- the archive that is made of them

  pub placed : (p : ℕ) → p < n → (place_in s p < blocks_in s) × Left s (place_in s p) × (byte_at (block_at s (place_in s p)) 5 ≡ p + 1)
  placed p h =
      let o = place_once s (codes_of s) complete_completes p (rw head_n h) in
      let k : place_in s p < blocks_in s = omega (arith, o.below, codes_length s) in
      let w = with_is s (place_in s p) (p + 1) k o.holds in
      (k, w.0, w.1)

  mended_is : mended s ≡ in_order s (codes_of s) n
  unfolding mended
  mended_is = rw count_is

  covered : 512 * length (codes_of s) ≤ length s
  covered = omega (arith, codes_length s)

  all_placed : Placed s (codes_of s) n
  all_placed p h = omega (arith, (placed p h).0, codes_length s)

  pub mended_length : length (mended s) ≡ 512 * n
  mended_length = ap length mended_is ∙ order_long s (codes_of s) n covered all_placed

  pub mended_block : (p : ℕ) → p < n → block_at (mended s) p ≡ block_at s (place_in s p)
  mended_block p h = ap (λ (x : List ℕ). block_at x p) mended_is ∙ order_at s (codes_of s) n covered all_placed p h

  pub ordered_is : Ordered s (blocks_in s) n (mended s)
  ordered_is =
      record {
        long = mended_length;
        block = λ p i h l e.
            let m : p < n = omega (arith, (c.numbers i h l).1, e) in
            let x = placed p m in
            mended_block p m ∙ ap (block_at s) (c.once (place_in s p) i x.0 h x.1 l (x.2 ∙ sym e));
      }

  -- and nothing else is
  ordered_one : (a : List ℕ) → Ordered s (blocks_in s) n a → a ≡ mended s
  ordered_one a o =
      sym (parts_joined a n o.long)
      ∙ join_eq n (block_at a) (block_at (mended s)) (λ p h. let x = placed p h in o.block p (place_in s p) x.0 x.1 x.2 ∙ sym (mended_block p h))
      ∙ parts_joined (mended s) n mended_length

-- ---- and by the number of blocks of a card

pub ordered : (s a : List ℕ) (k n : ℕ) → WholeCard s k → Complete s k n → Ordered s k n a exactly_if (a ≡ mended s)
ordered s a k n w c =
    let e = card_blocks w in
    rw (← e) (ordered_one s n (rw e c) a, λ f. rw f (ordered_is s n (rw e c)))
