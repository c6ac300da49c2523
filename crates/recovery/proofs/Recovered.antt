-- A spoiled card gives its archive back, and a good archive is returned as it is (specs/Recovered.antt).
-- Assumes nothing.
use Prim.Native.Nat.{ℕ, ◌+◌, ◌-◌, ◌<◌}
use mathlib.Core.Path.{◌≡◌, refl, sym, ap, ◌∙◌}
use mathlib.Core.Bool.{Bool}
use mathlib.Core.Logic.{inr, ⊎_elim}
use mathlib.Core.List.{List}
use native.Mathlib.Omega.{arith}
use native.Mathlib.Decide.{dec_lt}
use lib.ListN.{length, replicate, length-replicate, get_or-replicate}
use lib.Seq.{ext_get_or}
use Rattle.basics.specs.Over.{first_to}
use Rattle.basics.proofs.JoinLaws.{join_eq}
use Rattle.basics.proofs.FirstIndexLaws.{first_is}
use Rattle.std.specs.Prelude.{Ok}
use Rattle.block.specs.Numbers.{byte_at}
use Rattle.card.specs.Archive.{block_at, blocks_in}
use Rattle.card.proofs.ReadLaws.{accepted_is}
use Rattle.release.specs.Refusals.{GoodBlock}
use Rattle.release.proofs.Parts.{parts_joined, Kept, fine_kept}
use Rattle.salvaging.specs.declared.Fate.TheVariants.{Kept as IsKept}
use Rattle.salvaging.specs.Fates.{code_of, same_bytes, codes_of}
use Rattle.salvaging.specs.Salvage.{mended, salvage_fault, salvage_answer, listed, salvaged}
use Rattle.salvaging.proofs.FateLaws.{same_is, is_same}
use Rattle.salvaging.proofs.FoundLaws.{codes_length}
use Rattle.recovery.specs.Refusals.{WholeCard, New, Left, Complete, Room, kept}
use Rattle.recovery.specs.Recovered.{Gives, ReturnedAsItIs, Spoiled, GivenBack}
use Rattle.basics.proofs.OnceLaws.{both, first_below}
use Rattle.recovery.proofs.LeftLaws.{fate_is, code_is}
use Rattle.recovery.proofs.CardLaws.{card_blocks, room_fine, sound_fine}
use Rattle.recovery.proofs.Complete.{is_complete_lem, ordered_is}

-- ---- the first block that is as another is left

earliest : (s b : List ℕ) (k i : ℕ) → i < k → block_at s i ≡ b → GoodBlock b → (j : ℕ) × (j < k) × Left s j × (block_at s j ≡ b)
earliest s b k i h e g = (first_to k test, there, (rw is_b g, new), is_b)
  where
    test : ℕ → Bool
    test j = same_bytes (block_at s j) b

    there : first_to k test < k
    there = first_below k i test h (is_same (block_at s i) b e)

    is_b : block_at s (first_to k test) ≡ b
    is_b = same_is _ _ ((first_is k test).found there)

    new : New s (first_to k test)
    new j l x q = both (is_same (block_at s j) b (q ∙ is_b)) ((first_is k test).clear j l)

-- of two that are alike only one is left
alike : (s : List ℕ) (i j : ℕ) → Left s i → Left s j → block_at s i ≡ block_at s j → i ≡ j
alike s i j l m e = go (dec_lt i j) (dec_lt j i)
  where
    go : Dec (i < j) → Dec (j < i) → i ≡ j
    go (yes d) x = absurd (m.1 i d l.0 e)
    go (no d) (yes x) = absurd (l.1 j x m.0 (sym e))
    go (no d) (no x) = omega arith

-- ---- a spoiled card

-- a block of an archive
abbrev Among : List ℕ → List ℕ → Type 0
Among a b = (p : ℕ) × (p < blocks_in a) × (b ≡ block_at a p)

module _ (a s : List ℕ) (k : Kept a) (x : Spoiled a s (blocks_in s)) where
  -- a block that is left is one of the archive's
  left_from : (i : ℕ) → i < blocks_in s → Left s i → Among a (block_at s i)
  left_from i h l = ⊎_elim (λ n. absurd (n l.0)) (λ y. y) (x.from i h)

  -- and each of the archive's is left
  left_each : (p : ℕ) → p < blocks_in a → (i : ℕ) × (i < blocks_in s) × Left s i × (block_at s i ≡ block_at a p)
  left_each p h = let y = x.each p h in earliest s (block_at a p) (blocks_in s) y.0 y.1 y.2 (k.good p h).0

  -- what a block that is left says
  left_says : (i : ℕ) (h : i < blocks_in s) (l : Left s i)
      → (byte_at (block_at s i) 3 ≡ byte_at (block_at a 0) 3) × (byte_at (block_at s i) 4 ≡ blocks_in a) × (byte_at (block_at s i) 5 ≡ (left_from i h l).0 + 1)
  left_says i h l =
      let y = left_from i h l in
      let g = (k.good y.0 y.1).1 in
      let byte : (b : ℕ) → byte_at (block_at s i) b ≡ byte_at (block_at a y.0) b = λ b. ap (λ (z : List ℕ). byte_at z b) y.2 in
      (byte 3 ∙ g.cpus, byte 4 ∙ g.n_blocks, byte 5 ∙ g.number)

  spoiled_once : (i j : ℕ) → i < blocks_in s → j < blocks_in s → Left s i → Left s j → byte_at (block_at s i) 5 ≡ byte_at (block_at s j) 5 → i ≡ j
  spoiled_once i j h m l n e =
      let p = left_from i h l in
      let q = left_from j m n in
      let d : p.0 ≡ q.0 = omega (arith, (left_says i h l).2, (left_says j m n).2, e) in
      alike s i j l n (p.2 ∙ ap (block_at a) d ∙ sym q.2)

  spoiled_complete : Complete s (blocks_in s) (blocks_in a)
  spoiled_complete =
      record {
        some = let y = left_each 0 k.whole.least in (y.0, y.1, y.2);
        cpus = λ i j h m l n. (left_says i h l).0 ∙ sym (left_says j m n).0;
        tasks = λ i h l. (left_says i h l).1;
        numbers = λ i h l. let e = (left_says i h l).2 in (omega arith, omega (arith, (left_from i h l).1));
        each = λ p l h.
            let y = left_each (p - 1) (omega arith) in
            (y.0, y.1, y.2, ap (λ (z : List ℕ). byte_at z 5) y.3 ∙ (k.good (p - 1) (omega arith)).1.number ∙ omega arith);
        once = spoiled_once;
      }

  -- the archive that was on it
  given : mended s ≡ a
  given =
      let o = ordered_is s (blocks_in a) spoiled_complete in
      sym (parts_joined (mended s) (blocks_in a) o.long)
      ∙ join_eq (blocks_in a) (block_at (mended s)) (block_at a)
      (λ p h. let y = left_each p h in o.block p y.0 y.1 y.2 (ap (λ (z : List ℕ). byte_at z 5) y.3 ∙ (k.good p h).1.number) ∙ y.3)
      ∙ parts_joined a (blocks_in a) k.whole.long

  module _ (list out : List ℕ) (w : WholeCard s (blocks_in s)) (r : Room s (blocks_in s) (length list) (length out)) where
    given_fine : salvage_fault s (length list) (length out) ≡ Ok tt
    given_fine =
        sound_fine s (length list) (length out)
        (record { whole = w; fits = r; complete = is_complete_lem s (blocks_in a) spoiled_complete; table = rw given k.table })

    given_all : Gives s list out a (codes_of s)
    unfolding salvage_answer salvaged listed
    given_all =
        record {
          answer = rw (given_fine, given);
          output = rw (given_fine, given);
          entries = rw (room_fine s (length list) (length out) w r);
        }

pub given_back : GivenBack
given_back a s list out t k e w x r =
    let b = card_blocks w in
    given_all a s (fine_kept a (accepted_is a t e).0) (rw b x) list out (rw b w) (rw b r)

-- ---- a good archive

module _ (a : List ℕ) (k : Kept a) where
  -- no two blocks are alike: their numbers are their positions
  all_left : (i : ℕ) → i < blocks_in a → Left a i
  all_left i h = ((k.good i h).0, new)
    where
      new : New a i
      new j l g e =
          let d : byte_at (block_at a j) 5 ≡ byte_at (block_at a i) 5 = ap (λ (z : List ℕ). byte_at z 5) e in
          omega (arith, d, (k.good i h).1.number, (k.good j (omega arith)).1.number)

  -- all are kept
  code_kept : (i : ℕ) → i < blocks_in a → byte_at (codes_of a) i ≡ code_of IsKept
  code_kept i h = code_is a i h ∙ ap code_of (fate_is a i IsKept (kept (all_left i h) (k.good i h).1.number))

  all_kept : codes_of a ≡ replicate (blocks_in a) (code_of IsKept)
  all_kept =
      let n : ℕ = blocks_in a in
      let l = codes_length a in
      ext_get_or 0 (codes_of a) (replicate n 2) (l ∙ sym (length-replicate n 2))
      (λ i h. let m : i < blocks_in a = omega arith in code_kept i m ∙ sym (get_or-replicate n i 2 0 m))

  as_it_is : Spoiled a a (blocks_in a)
  as_it_is = record { from = λ i h. inr (i, h, refl); each = λ p h. (p, h, refl) }

  as_card : WholeCard a (blocks_in a)
  as_card = let w = k.whole in record { least = w.least; most = omega (arith, w.most); long = w.long }

pub returned_as_it_is : ReturnedAsItIs
returned_as_it_is a list out t e r =
    let k = fine_kept a (accepted_is a t e).0 in
    rw (← all_kept a k) (given_all a a k (as_it_is a k) list out (as_card a k) r)
