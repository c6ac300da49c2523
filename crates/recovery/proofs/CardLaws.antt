-- A card and the room for it, as tests and as facts; and what it is that nothing is refused.
-- Assumes nothing.
use Prim.Native.Nat.{ℕ, ◌%◌}
use mathlib.Core.Path.{◌≡◌}
use mathlib.Core.Bool.{true}
use mathlib.Core.List.{List}
use native.Mathlib.Omega.{arith}
use borrow.Author.Tests.{leb-true, le-leb, eq-eqb}
use lib.Dec.{leb}
use lib.ListN.{length}
use Rattle.basics.proofs.ChoiceLaws.{and_true, within_in}
use Rattle.table.specs.declared.Fault.TheVariants.{TooShort, Mismatch, BadCard}
use Rattle.std.specs.Prelude.{Ok}
use Rattle.table.specs.Faults.{unless}
use Rattle.table.specs.Rules.{table_fault}
use Rattle.table.proofs.FirstLaws.{then_fine}
use Rattle.table.proofs.RuleLaws.{unless_fine}
use Rattle.card.specs.Archive.{blocks_in, table_in}
use Rattle.salvaging.specs.Fates.{codes_of}
use Rattle.salvaging.specs.Salvage.{max_blocks, is_complete, is_card, has_room, room_fault, left_fault, salvage_fault, mended}
use Rattle.salvaging.proofs.AnswerLaws.{card_whole}
use Rattle.recovery.specs.Refusals.{WholeCard, Room}

pub card_blocks : {s : List ℕ} {k : ℕ} → WholeCard s k → blocks_in s ≡ k
card_blocks w = omega (arith, w.long)

module _ (s : List ℕ) where
  pub card_is : is_card (length s) ≡ true → WholeCard s (blocks_in s)
  card_is e = let w = card_whole (length s) e in record { long = w.0; least = w.1; most = w.2 }

  pub is_card_lem : (k : ℕ) → WholeCard s k → is_card (length s) ≡ true
  unfolding is_card
  is_card_lem k w = rw (eq-eqb (length s % 512) 0 (omega (arith, w.long)), card_blocks w, within_in 1 max_blocks k w.least w.most)

  module _ (entries room : ℕ) where
    pub room_is : has_room (length s) entries room ≡ true → Room s (blocks_in s) entries room
    unfolding has_room
    room_is e = let p = and_true (leb (blocks_in s) entries) (leb (length s) room) e in (leb-true _ _ p.0, leb-true _ _ p.1)

    pub is_room : Room s (blocks_in s) entries room → has_room (length s) entries room ≡ true
    unfolding has_room
    is_room r = rw (le-leb (blocks_in s) entries r.0, le-leb (length s) room r.1)

    -- neither 15 nor 11
    pub room_fits : room_fault (length s) entries room ≡ Ok tt → WholeCard s (blocks_in s) × Room s (blocks_in s) entries room
    unfolding room_fault
    room_fits e =
        let p = then_fine (unless (is_card (length s)) BadCard 0) (unless (has_room (length s) entries room) TooShort 0) e in
        (card_is (unless_fine _ BadCard 0 p.0), room_is (unless_fine _ TooShort 0 p.1))

    pub room_fine : WholeCard s (blocks_in s) → Room s (blocks_in s) entries room → room_fault (length s) entries room ≡ Ok tt
    unfolding room_fault
    room_fine w r = rw (is_card_lem (blocks_in s) w, is_room r)

    -- a card against which nothing is said
    pub record Sound : Type 0 where
      pub whole : WholeCard s (blocks_in s)
      pub fits : Room s (blocks_in s) entries room
      pub complete : is_complete s (codes_of s) ≡ true
      pub table : table_fault (table_in (mended s)) ≡ Ok tt

    pub fine_sound : salvage_fault s entries room ≡ Ok tt → Sound
    unfolding salvage_fault left_fault mended
    fine_sound e =
        let p = then_fine (room_fault (length s) entries room) (left_fault s (codes_of s)) e in
        let f = room_fits p.0 in
        let q = then_fine (unless (is_complete s (codes_of s)) Mismatch 0) (table_fault (table_in (mended s))) p.1 in
        record { whole = f.0; fits = f.1; complete = unless_fine _ Mismatch 0 q.0; table = q.1 }

    pub sound_fine : Sound → salvage_fault s entries room ≡ Ok tt
    unfolding salvage_fault left_fault mended
    sound_fine x = rw (room_fine x.whole x.fits, x.complete) x.table
