-- After which refusals the list is written: not after 15 and 11, and after every other.
-- Assumes nothing.
use Prim.Native.Nat.{ℕ, ◌≤◌}
use mathlib.Core.Path.{◌≡◌, refl, sym}
use mathlib.Core.Logic.{◌⊎◌, inl, inr, ⊎_elim}
use mathlib.Core.List.{List, ◌++◌}
use native.Mathlib.Omega.{arith}
use lib.ListN.{length, drop}
use Rattle.table.specs.declared.Fault.TheVariants.{TooShort, Mismatch, BadCard}
use Rattle.table.specs.Faults.{Checked, number_of, Refuses, unless}
use Rattle.std.specs.Prelude.{Ok, Err}
use Rattle.table.specs.Rules.{table_fault}
use Rattle.table.proofs.Deciding.{rule_is, from_two, by_first}
use Rattle.table.proofs.Called.{refused_as_called as table-refused, number_most}
use Rattle.card.specs.Archive.{table_in}
use Rattle.card.proofs.ReadLaws.{card_none}
use Rattle.salvaging.specs.Fates.{codes_of}
use Rattle.salvaging.specs.Salvage.{left_in, is_complete, in_order, is_card, has_room, room_fault, left_fault, salvage_fault, listed}

-- ---- the list

module _ (s list : List ℕ) (room : ℕ) where
  abbrev early : Checked
  early = room_fault (length s) (length list) room

  -- 15 and 11, with place 0
  early_number : (k p : ℕ) → Refuses early k p → Refuses early 15 0 ⊎ Refuses early 11 0
  unfolding room_fault
  early_number k p x =
      from_two (unless (is_card (length s)) BadCard 0) (unless (has_room (length s) (length list) room) TooShort 0) k p
      (λ y. let r = rule_is (is_card (length s)) BadCard 0 k p y in inl (rw (← r.1, ← r.2) at x))
      (λ _ y. let r = rule_is (has_room (length s) (length list) room) TooShort 0 k p y in inr (rw (← r.1, ← r.2) at x))
      x

  -- 14 and the table's own
  late_number : (k p : ℕ) → Refuses (left_fault s (codes_of s)) k p → (k ≡ 14) ⊎ (k ≤ 9)
  unfolding left_fault
  late_number k p =
      from_two (unless (is_complete s (codes_of s)) Mismatch 0) (table_fault (table_in (in_order s (codes_of s) (left_in (codes_of s))))) k p
      (λ x. inl (sym (rule_is (is_complete s (codes_of s)) Mismatch 0 k p x).1))
      (λ _ x. inr (number_most (card_none (in_order s (codes_of s) (left_in (codes_of s)))) ((table-refused.refused (table_in (in_order s (codes_of s) (left_in (codes_of s)))) k p).0 x)))

  -- what refuses the list
  kept_by : (k p : ℕ) → Refuses early k p → listed s list room ≡ list
  unfolding listed
  kept_by k p x = rw x.1

  written_by : early ≡ Ok tt → listed s list room ≡ codes_of s ++ drop (length (codes_of s)) list
  unfolding listed
  written_by e = rw e

  kept_after : (k p : ℕ) → ((k ≡ 14) ⊎ (k ≤ 9) → ⊥) → Refuses (salvage_fault s (length list) room) k p → listed s list room ≡ list
  unfolding salvage_fault
  kept_after k p n = from_two early (left_fault s (codes_of s)) k p (kept_by k p) (λ _ x. absurd (n (late_number k p x)))

pub list_kept : (s list : List ℕ) (room place : ℕ) → Refuses (salvage_fault s (length list) room) 15 place ⊎ Refuses (salvage_fault s (length list) room) 11 place → listed s list room ≡ list
list_kept s list room place =
    ⊎_elim (kept_after s list room 15 place (⊎_elim (λ e. omega arith) (λ h. omega arith))) (kept_after s list room 11 place (⊎_elim (λ e. omega arith) (λ h. omega arith)))

pub list_written : (s list : List ℕ) (room : ℕ) → (Refuses (salvage_fault s (length list) room) 15 0 → ⊥) → (Refuses (salvage_fault s (length list) room) 11 0 → ⊥)
    → listed s list room ≡ codes_of s ++ drop (length (codes_of s)) list
unfolding salvage_fault
list_written s list room m n = go (early s list room) refl
  where
    go : (c : Checked) → early s list room ≡ c → listed s list room ≡ codes_of s ++ drop (length (codes_of s)) list
    go (Ok _) e = written_by s list room e
    go (Err r) e =
        let x : Refuses (early s list room) (number_of r.fault) r.place = (r, e, record { number = refl; place = refl }) in
        absurd (⊎_elim (λ y. m (by_first (early s list room) _ 15 0 y)) (λ y. n (by_first (early s list room) _ 11 0 y)) (early_number s list room (number_of r.fault) r.place x))
