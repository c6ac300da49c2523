-- Blocks that are the same, and what becomes of a block.
-- Assumes nothing.
use Prim.Native.Nat.{ℕ, ◌+◌}
use mathlib.Core.Path.{◌≡◌, refl, sym, ap}
use mathlib.Core.Bool.{Bool, true, false, ◌&&◌, and-false}
use mathlib.Core.List.{List}
use borrow.Author.Tests.{eq-eqb, ne_eqb, eqb-true}
use lib.ListN.{length}
use lib.Seq.{ext_get_or}
use lib.Dec.{eqb, ltb}
use Rattle.basics.specs.Over.{all_to, first_to}
use Rattle.basics.proofs.ChoiceLaws.{and_true}
use Rattle.basics.proofs.AllLaws.{all_at, all_hold}
use Rattle.basics.proofs.FirstIndexLaws.{first_eq}
use Rattle.block.specs.Numbers.{byte_at}
use Rattle.block.specs.Block.{good_block}
use Rattle.card.specs.Archive.{block_at}
use Rattle.salvaging.specs.declared.Fate.TheVariants.{Bad, Doubled, Kept, Moved}
use Rattle.salvaging.specs.Fates.{good_at, number_on, same_bytes, is_doubled, fate_at}

-- byte for byte, as a test and as a fact
pub same_is : (a b : List ℕ) → same_bytes a b ≡ true → a ≡ b
unfolding same_bytes
same_is a b e =
    let p = and_true (eqb (length a) (length b)) (all_to (length a) (λ k. eqb (byte_at a k) (byte_at b k))) e in
    ext_get_or 0 a b (eqb-true _ _ p.0) (λ k h. eqb-true _ _ (all_at (length a) k (λ k. eqb (byte_at a k) (byte_at b k)) p.1 h))

pub is_same : (a b : List ℕ) → a ≡ b → same_bytes a b ≡ true
unfolding same_bytes
is_same a b e = rw (← e, eq-eqb (length a) (length a) refl) (all_hold (length a) (λ k. eqb (byte_at a k) (byte_at a k)) (λ k h. eq-eqb (byte_at a k) (byte_at a k) refl))

-- a block that equals a good one is good, so that of a good block nothing but the bytes has to be looked at
pub good_same : (s : List ℕ) (i : ℕ) → good_at s i ≡ true → ltb (first_to i (λ j. same_bytes (block_at s j) (block_at s i))) i ≡ is_doubled s i
unfolding is_doubled
good_same s i g = ap (λ (n : ℕ). ltb n i) (first_eq i (λ j. same_bytes (block_at s j) (block_at s i)) (λ j. good_at s j && same_bytes (block_at s j) (block_at s i)) (λ j h. go j (same_bytes (block_at s j) (block_at s i)) refl))
  where
    go : (j : ℕ) (b : Bool) → same_bytes (block_at s j) (block_at s i) ≡ b → b ≡ (good_at s j && b)
    go j true e = rw (ap good_block (same_is (block_at s j) (block_at s i) e), g)
    go j false e = sym (and-false (good_at s j))

-- ---- what becomes of a block, case by case

module _ (s : List ℕ) (i : ℕ) where
  pub fate_bad : good_at s i ≡ false → fate_at s i ≡ Bad
  unfolding fate_at
  fate_bad g = rw g

  pub fate_doubled : good_at s i ≡ true → is_doubled s i ≡ true → fate_at s i ≡ Doubled
  unfolding fate_at
  fate_doubled g d = rw (g, d)

  pub fate_kept : good_at s i ≡ true → is_doubled s i ≡ false → number_on s i ≡ i + 1 → fate_at s i ≡ Kept
  unfolding fate_at
  fate_kept g d e = rw (g, d, eq-eqb (number_on s i) (i + 1) e)

  pub fate_moved : good_at s i ≡ true → is_doubled s i ≡ false → (number_on s i ≡ i + 1 → ⊥) → fate_at s i ≡ Moved
  unfolding fate_at
  fate_moved g d e = rw (g, d, ne_eqb (number_on s i) (i + 1) e)
