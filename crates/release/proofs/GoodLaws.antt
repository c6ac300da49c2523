-- The tests of a block and of its place are the second way to say them.
-- Assumes nothing.
use Prim.Native.Nat.{ℕ, ◌+◌, ◌-◌, ◌≤◌, ◌<◌}
use mathlib.Core.Path.{◌≡◌}
use mathlib.Core.Bool.{Bool, true, ◌&&◌}
use mathlib.Core.Logic.{◌⊎◌, inl, inr}
use mathlib.Core.List.{List}
use native.Mathlib.Omega.{arith}
use borrow.Author.Tests.{eqb-true, eq-eqb}
use lib.ListN.{length, take}
use lib.Dec.{eqb}
use Rattle.basics.proofs.ChoiceLaws.{and_true}
use Rattle.basics.proofs.AllLaws.{all_at, all_hold}
use Rattle.checksum.specs.Sum.{check_of}
use Rattle.block.specs.Numbers.{byte_at, number_at}
use Rattle.block.specs.Block.{zeros_at, marked_block, good_block, head_in}
use Rattle.card.specs.Archive.{block_at, agrees}
use Rattle.release.specs.Refusals.{GoodBlock, InPlace}

and_three : (a b c : Bool) → (a && b && c) ≡ true → (a ≡ true) × (b ≡ true) × (c ≡ true)
and_three a b c e = let p = and_true (a && b) c e in let q = and_true a b p.0 in (q.0, q.1, p.1)

and_four : (a b c d : Bool) → (a && b && c && d) ≡ true → (a ≡ true) × (b ≡ true) × (c ≡ true) × (d ≡ true)
and_four a b c d e = let p = and_true (a && b && c) d e in let q = and_three a b c p.0 in (q.0, q.1, q.2, p.1)

and_five : (a b c d e : Bool) → (a && b && c && d && e) ≡ true → (a ≡ true) × (b ≡ true) × (c ≡ true) × (d ≡ true) × (e ≡ true)
and_five a b c d e h = let p = and_true (a && b && c && d) e h in let q = and_four a b c d p.0 in (q.0, q.1, q.2, q.3, p.1)

-- a run of zeros, as a test and as a fact
zeros_are : (s : List ℕ) (at k i : ℕ) → zeros_at s at k ≡ true → at ≤ i → i < at + k → byte_at s i ≡ 0
zeros_are s at k i e l h =
    let j : at + (i - at) ≡ i = omega arith in
    let z : byte_at s (at + (i - at)) ≡ 0 = eqb-true _ _ (all_at k (i - at) (λ n. eqb (byte_at s (at + n)) 0) e (omega arith)) in
    rw j at z

zeros_hold : (s : List ℕ) (at k : ℕ) → ((i : ℕ) → at ≤ i → i < at + k → byte_at s i ≡ 0) → zeros_at s at k ≡ true
zeros_hold s at k each = all_hold k _ (λ j h. eq-eqb _ _ (each (at + j) (omega arith) (omega arith)))

module _ (s : List ℕ) where
  pub good_is : good_block s ≡ true → GoodBlock s
  unfolding good_block marked_block
  good_is e =
      let g = and_three (eqb (length s) 512) (eqb (number_at s 510 2) (check_of (take 510 s))) (marked_block s) e in
      let m = and_five (eqb (byte_at s 0) 0x54) (eqb (byte_at s 1) 0x42) (eqb (byte_at s 2) 1) (zeros_at s 6 2) (zeros_at s 180 330) g.2 in
      record {
        long = eqb-true _ _ g.0;
        check = eqb-true _ _ g.1;
        mark = (eqb-true _ _ m.0, eqb-true _ _ m.1);
        version = eqb-true _ _ m.2;
        zeros = λ i h. go i h m.3 m.4;
      }
    where
      go : (i : ℕ) → ((6 ≤ i) × (i < 8)) ⊎ ((180 ≤ i) × (i < 510)) → zeros_at s 6 2 ≡ true → zeros_at s 180 330 ≡ true → byte_at s i ≡ 0
      go i (inl h) p q = zeros_are s 6 2 i p h.0 h.1
      go i (inr h) p q = zeros_are s 180 330 i q h.0 h.1

  pub is_good : GoodBlock s → good_block s ≡ true
  unfolding good_block marked_block
  is_good g =
      rw (
        eq-eqb _ _ g.long,
        eq-eqb _ _ g.check,
        eq-eqb _ _ g.mark.0,
        eq-eqb _ _ g.mark.1,
        eq-eqb _ _ g.version,
        zeros_hold s 6 2 (λ i l h. g.zeros i (inl (l, h))),
        zeros_hold s 180 330 (λ i l h. g.zeros i (inr (l, h))),
      )

module _ (a : List ℕ) (n i : ℕ) where
  pub agrees_is : agrees (head_in (block_at a 0)) n (i + 1) (head_in (block_at a i)) ≡ true → InPlace a n i
  unfolding agrees head_in
  agrees_is e =
      let p = and_four (eqb (byte_at (block_at a i) 3) (byte_at (block_at a 0) 3)) (eqb (byte_at (block_at a i) 4) (byte_at (block_at a 0) 4)) (eqb (byte_at (block_at a i) 4) n) (eqb (byte_at (block_at a i) 5) (i + 1)) e in
      record { cpus = eqb-true _ _ p.0; n_first = eqb-true _ _ p.1; n_blocks = eqb-true _ _ p.2; number = eqb-true _ _ p.3 }

  pub is_agreed : InPlace a n i → agrees (head_in (block_at a 0)) n (i + 1) (head_in (block_at a i)) ≡ true
  unfolding agrees head_in
  is_agreed p = rw (eq-eqb _ _ p.cpus, eq-eqb _ _ p.n_first, eq-eqb _ _ p.n_blocks, eq-eqb _ _ p.number)
