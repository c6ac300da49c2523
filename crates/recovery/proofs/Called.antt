-- A card with bad blocks is listed, put in order and refused as it calls for (specs/Refusals.antt).
-- Assumes nothing.
use Prim.Native.Nat.{ℕ, ◌<◌}
use mathlib.Core.Path.{◌≡◌, refl, sym}
use mathlib.Core.Bool.{false}
use mathlib.Core.Logic.{◌⊎◌, inl, inr}
use mathlib.Core.List.{List}
use native.Mathlib.Omega.{arith}
use native.Mathlib.Decide.{dec_lt}
use borrow.Author.Tests.{le-leb, lt-leb}
use lib.ListN.{length}
use Rattle.table.specs.declared.Fault.TheVariants.{TooShort, Mismatch, BadCard}
use Rattle.table.specs.Faults.{Checked, Refuses, unless}
use Rattle.std.specs.Prelude.{Ok}
use Rattle.table.specs.Limits.{max_tasks}
use Rattle.table.specs.Rules.{table_fault}
use Rattle.table.specs.Accepted.{Accepted}
use Rattle.table.proofs.Deciding.{two_decide, is_rule, from_rule, from_two, fails, failing}
use Rattle.table.proofs.Called.{refused_as_called as table-refused}
use Rattle.table.proofs.RuleLaws.{unless_fine}
use Rattle.table.proofs.Acceptance.{fine_accepted, accepted_fine}
use Rattle.card.specs.Archive.{blocks_in, table_in}
use Rattle.salvaging.specs.Fates.{codes_of}
use Rattle.salvaging.specs.Salvage.{is_complete, is_card, has_room, room_fault, left_fault, salvage_fault, mended}
use Rattle.recovery.specs.Refusals.{WholeCard, Complete, Ordered, Room, CallsFor, bad_card, too_short, incomplete, table, SalvagedAsCalled}
use Rattle.recovery.proofs.LeftLaws.{becomes, fate_is}
use Rattle.recovery.proofs.CardLaws.{card_blocks, card_is, is_card_lem, room_is, is_room, room_fits, room_fine, fine_sound, sound_fine}
use Rattle.recovery.proofs.Complete.{complete_is, is_complete_lem, mended_length, ordered}

module _ (s : List ℕ) (entries room : ℕ) where
  abbrev own_fault : Checked
  own_fault = table_fault (table_in (mended s))

  -- ---- room

  abbrev Short : Type 0
  Short = (entries < blocks_in s) ⊎ (room < length s)

  short_is : has_room (length s) entries room ≡ false → Short
  short_is e = go (dec_lt entries (blocks_in s)) (dec_lt room (length s))
    where
      go : Dec (entries < blocks_in s) → Dec (room < length s) → Short
      go (yes d) x = inl d
      go (no d) (yes x) = inr x
      go (no d) (no x) = absurd (fails (has_room (length s) entries room) (is_room s entries room) e (omega arith, omega arith))

  is_short : Short → has_room (length s) entries room ≡ false
  is_short x = failing (has_room (length s) entries room) (room_is s entries room) (go x)
    where
      go : Short → Room s (blocks_in s) entries room → ⊥
      go (inl h) r = omega arith
      go (inr h) r = omega arith

  -- ---- what is given is called for

  room_calls : (k p : ℕ) → Refuses (room_fault (length s) entries room) k p → CallsFor s entries room k p
  unfolding room_fault
  room_calls k p =
      from_two (unless (is_card (length s)) BadCard 0) (unless (has_room (length s) entries room) TooShort 0) k p
      (from_rule (CallsFor s entries room) (is_card (length s)) BadCard 0 k p (λ e. bad_card (λ n. fails _ (is_card_lem s n) e)))
      (λ f. from_rule (CallsFor s entries room) (has_room (length s) entries room) TooShort 0 k p
      (λ e. too_short (blocks_in s) (card_is s (unless_fine _ BadCard 0 f)) (short_is e)))

  left_calls : WholeCard s (blocks_in s) → Room s (blocks_in s) entries room → (k p : ℕ) → Refuses (left_fault s (codes_of s)) k p → CallsFor s entries room k p
  unfolding left_fault mended
  left_calls w fits k p =
      from_two (unless (is_complete s (codes_of s)) Mismatch 0) own_fault k p
      (from_rule (CallsFor s entries room) (is_complete s (codes_of s)) Mismatch 0 k p (λ e. incomplete (blocks_in s) w fits (λ n. fails _ (is_complete_lem s n) e)))
      (λ f x. let c = complete_is s (unless_fine _ Mismatch 0 f) in table (blocks_in s) _ (mended s) w fits c ((ordered s (mended s) (blocks_in s) _ w c).1 refl) ((table-refused.refused (table_in (mended s)) k p).0 x))

  refused_calls : (k p : ℕ) → Refuses (salvage_fault s entries room) k p → CallsFor s entries room k p
  unfolding salvage_fault
  refused_calls k p =
      from_two (room_fault (length s) entries room) (left_fault s (codes_of s)) k p (room_calls k p)
      (λ f. let r = room_fits s entries room f in left_calls r.0 r.1 k p)

  -- ---- what is called for is given

  -- of the room; and of the blocks left, where there is room
  room_given : (k p : ℕ) → Refuses (room_fault (length s) entries room) k p → Refuses (salvage_fault s entries room) k p
  unfolding salvage_fault
  room_given k p x = (two_decide (room_fault (length s) entries room) (left_fault s (codes_of s)) k p).1 (inl x)

  left_given : WholeCard s (blocks_in s) → Room s (blocks_in s) entries room → (k p : ℕ) → Refuses (left_fault s (codes_of s)) k p
      → Refuses (salvage_fault s entries room) k p
  unfolding salvage_fault
  left_given w fits k p x = rw (room_fine s entries room w fits) x

  bad_given : ((k : ℕ) → WholeCard s k → ⊥) → Refuses (room_fault (length s) entries room) 15 0
  unfolding room_fault
  bad_given n =
      (two_decide _ (unless (has_room (length s) entries room) TooShort 0) 15 0).1
      (inl (is_rule (is_card (length s)) BadCard 0 (failing _ (card_is s) (n (blocks_in s)))))

  short_given : WholeCard s (blocks_in s) → Short → Refuses (room_fault (length s) entries room) 11 0
  unfolding room_fault
  short_given w x = rw (is_card_lem s (blocks_in s) w) (is_rule (has_room (length s) entries room) TooShort 0 (is_short x))

  incomplete_given : ((n : ℕ) → Complete s (blocks_in s) n → ⊥) → Refuses (left_fault s (codes_of s)) 14 0
  unfolding left_fault mended
  incomplete_given n =
      (two_decide _ own_fault 14 0).1 (inl (is_rule (is_complete s (codes_of s)) Mismatch 0 (failing _ (λ e. complete_is s e) (n _))))

  own_given : (n k p : ℕ) → Complete s (blocks_in s) n → Refuses own_fault k p → Refuses (left_fault s (codes_of s)) k p
  unfolding left_fault mended
  own_given n k p c x = rw (is_complete_lem s n c) x

  calls_refused : (k p : ℕ) → CallsFor s entries room k p → Refuses (salvage_fault s entries room) k p
  calls_refused _ _ (bad_card n) = room_given 15 0 (bad_given n)
  calls_refused _ _ (too_short k w x) = let e = sym (card_blocks w) in room_given 11 0 (short_given (rw e at w) (rw e at x))
  calls_refused _ _ (incomplete k w fits n) = let e = sym (card_blocks w) in left_given (rw e at w) (rw e at fits) 14 0 (incomplete_given (rw e at n))
  calls_refused q p (table k n a w fits c o x) =
      let e = sym (card_blocks w) in
      left_given (rw e at w) (rw e at fits) q p (own_given n q p (rw e at c) ((table-refused.refused (table_in (mended s)) q p).1 (rw ((ordered s a k n w c).0 o) at x)))

  -- ---- nothing is refused

  abbrev Calm : Type 0
  Calm = (k : ℕ) × (n : ℕ) × (a : List ℕ) × WholeCard s k × Room s k entries room × Complete s k n × Ordered s k n a × Accepted (table_in a)

  fine_calm : salvage_fault s entries room ≡ Ok tt → Calm
  fine_calm e =
      let x = fine_sound s entries room e in
      let c = complete_is s x.complete in
      (blocks_in s, _, mended s, x.whole, x.fits, c, (ordered s (mended s) (blocks_in s) _ x.whole c).1 refl, fine_accepted (table_in (mended s)) x.table)

  calm_fine : Calm → salvage_fault s entries room ≡ Ok tt
  calm_fine (k, n, a, w, fits, c, o, g) =
      let e = sym (card_blocks w) in
      sound_fine s entries room
      (record { whole = rw e at w; fits = rw e at fits; complete = is_complete_lem s n (rw e at c); table = accepted_fine (table_in (mended s)) (rw ((ordered s a k n w c).0 o) at g) })

  -- ---- too many

  many_given : (n : ℕ) → Complete s (blocks_in s) n → max_tasks < n → Refuses own_fault 8 0
  unfolding table_fault table_in
  many_given n c h =
      let b : blocks_in (mended s) ≡ n = omega (arith, mended_length s n c) in
      rw (b, le-leb 1 n (omega arith), lt-leb n max_tasks h) (_, refl, record { number = refl; place = refl })

  too_many : (k n : ℕ) → WholeCard s k → Room s k entries room → Complete s k n → max_tasks < n → Refuses (salvage_fault s entries room) 8 0
  too_many k n w fits c h =
      let e = sym (card_blocks w) in
      left_given (rw e at w) (rw e at fits) 8 0 (own_given n 8 0 (rw e at c) (many_given n (rw e at c) h))

pub salvaged_as_called : SalvagedAsCalled
salvaged_as_called =
    record {
      fates = λ s i f. (λ e. rw e at (becomes s i), fate_is s i f);
      ordered = ordered;
      refused = λ s entries room k p. (refused_calls s entries room k p, calls_refused s entries room k p);
      fine = λ s entries room. (fine_calm s entries room, calm_fine s entries room);
      too_many = too_many;
    }
