-- What is found out with an input, a list of so many entries and an output of so many bytes, and what is then written, is what the definitions say.
-- Assumes nothing.
use Prim.Native.Nat.{ℕ, ◌*◌, ◌≤◌}
use mathlib.Core.Path.{◌≡◌, refl, sym, ap, ◌∙◌}
use mathlib.Core.List.{List, ◌++◌}
use native.Mathlib.Omega.{arith}
use lib.ListN.{length, take, drop, length-append}
use lib.Seq.{length-take-le, take_at}
use Rattle.basics.specs.Over.{row_to}
use Rattle.basics.proofs.RowLaws.{row_length}
use Rattle.table.specs.declared.Fault.TheVariants.{Mismatch}
use Rattle.table.specs.Faults.{Checked}
use Rattle.std.specs.Prelude.{Ok, Err}
use Rattle.table.specs.Faults.{unless}
use Rattle.table.specs.Answers.{Written, or_wrote}
use Rattle.table.specs.declared.Refusal.{Refusal}
use Rattle.table.proofs.FirstLaws.{then_fine}
use Rattle.table.proofs.RuleLaws.{unless_fine}
use Rattle.card.specs.Archive.{blocks_in}
use Rattle.salvaging.specs.Fates.{code_at, codes_of}
use Rattle.salvaging.specs.Salvage.{max_blocks, left_in, is_complete, Placed, blocks_of, room_fault, left_fault, salvage_fault, if_fine, mended, salvage_answer}
use Rattle.salvaging.proofs.LeftLaws.{left_most, complete_placed}
use Rattle.salvaging.proofs.MendLaws.{order_long}
use Rattle.salvaging.proofs.AnswerLaws.{Roomy, roomy, looked}

pub codes_length : (s : List ℕ) → length (codes_of s) ≡ blocks_in s
unfolding codes_of
codes_length s = row_length (blocks_in s) (code_at s)

-- the codes of the blocks that are looked at
abbrev pub codes : List ℕ → List ℕ
codes s = row_to (looked s) (code_at s)

-- ---- once neither 15 nor 11 is given: k blocks of an input s, and their codes ys at the start of a row of `salvage`'s own

module _ (s row : List ℕ) (k : ℕ) (e : k ≡ blocks_of (length s)) {entries room : ℕ} (r : Roomy (length s) entries room) where
  pub few : k ≤ max_blocks
  few = omega (arith, e, r.most)

  pub lent : k ≤ length row → k ≡ length (take k row)
  lent h = sym (length-take-le k row h)

  pub lent_fits : k ≤ length row → (length (take k row) ≤ max_blocks) × (512 * length (take k row) ≤ length s)
  lent_fits h = (omega (arith, lent h, few), omega (arith, lent h, e, r.whole))

  module _ (ys : List ℕ) (f : ys ≡ row_to (length (take k row)) (code_at s)) (h : k ≤ length row) where
    codes_made : ys ≡ codes_of s
    unfolding codes_of
    codes_made = f ∙ rw (← lent h, e, r.blocks_are)

    codes_long : length ys ≡ k
    codes_long = rw f (row_length (length (take k row)) (code_at s)) ∙ sym (lent h)

    pub codes_within : k ≤ length (ys ++ drop k row)
    codes_within = omega (arith, codes_long, length-append ys (drop k row))

    pub read_long : k ≡ length (take k (ys ++ drop k row))
    read_long = sym (length-take-le k (ys ++ drop k row) codes_within)

    pub read_fits : (length (take k (ys ++ drop k row)) ≤ max_blocks) × (512 * length (take k (ys ++ drop k row)) ≤ length s)
    read_fits = (omega (arith, read_long, few), omega (arith, read_long, e, r.whole))

    pub codes_read : take k (ys ++ drop k row) ≡ codes_of s
    codes_read = take_at ys (drop k row) k codes_long ∙ codes_made

    -- and copied to the start of a list
    pub list_made : (list zs : List ℕ) → zs ≡ take k (ys ++ drop k row) → zs ++ drop k list ≡ codes_of s ++ drop (length (codes_of s)) list
    list_made list zs q =
        let n : length (codes_of s) ≡ k = rw (← codes_made) codes_long in
        rw (n, q, codes_read)

-- ---- what is found: a fault, or how many blocks are left

abbrev fault_in : Written → Checked
fault_in (Ok n) = Ok tt
fault_in (Err r) = Err r

abbrev many_in : Written → ℕ
many_in (Ok n) = n
many_in (Err r) = 0

fault_is : (c : Checked) (n : ℕ) → fault_in (or_wrote c n) ≡ c
fault_is (Ok _) n = refl
fault_is (Err r) n = refl

module _ (c : Checked) (n : ℕ) where
  pub found_refused : {r : Refusal} → or_wrote c n ≡ Err r → c ≡ Err r
  found_refused q = sym (fault_is c n) ∙ ap fault_in q

  pub found_fine : {m : ℕ} → or_wrote c n ≡ Ok m → c ≡ Ok tt
  found_fine q = sym (fault_is c n) ∙ ap fault_in q

  pub found_many : {m : ℕ} → or_wrote c n ≡ Ok m → m ≡ n
  found_many q = sym (ap many_in q) ∙ rw (found_fine q)

pub left_placed : (s list : List ℕ) → left_fault s list ≡ Ok tt → Placed s list (left_in list)
unfolding left_fault
left_placed s list f = complete_placed s list (unless_fine (is_complete s list) Mismatch 0 (then_fine (unless (is_complete s list) Mismatch 0) _ f).0)

-- where none is found, each block left is in its place, and there is room for all
module _ (s list : List ℕ) {m : ℕ} (q : or_wrote (left_fault s list) (left_in list) ≡ Ok m) where
  pub found_within : m ≤ length list
  found_within = omega (arith, found_many (left_fault s list) (left_in list) q, left_most list)

  pub found_placed : Placed s list m
  found_placed = rw (found_many (left_fault s list) (left_in list) q) (left_placed s list (found_fine (left_fault s list) (left_in list) q))

-- what is answered then
module _ (s : List ℕ) (entries room : ℕ) (e : room_fault (length s) entries room ≡ Ok tt) where
  pub mended_left : left_fault s (codes_of s) ≡ Ok tt → length (mended s) ≡ 512 * left_in (codes_of s)
  unfolding mended
  mended_left f = order_long s (codes_of s) (left_in (codes_of s)) (omega (arith, codes_length s)) (left_placed s (codes_of s) f)

  pub answer_left : or_wrote (left_fault s (codes_of s)) (512 * left_in (codes_of s)) ≡ salvage_answer s entries room
  unfolding salvage_answer salvage_fault
  answer_left = rw e (go (left_fault s (codes_of s)) refl)
    where
      go : (c : Checked) → left_fault s (codes_of s) ≡ c → or_wrote c (512 * left_in (codes_of s)) ≡ or_wrote c (length (mended s))
      go (Ok _) f = rw (mended_left f)
      go (Err r) f = refl

-- ---- what is answered, by how many blocks are written

module _ (s : List ℕ) (entries room : ℕ) where
  abbrev pub blocks : ℕ
  blocks = if_fine (salvage_fault s entries room) (left_in (codes s))

  fine : salvage_fault s entries room ≡ Ok tt → (room_fault (length s) entries room ≡ Ok tt) × (left_fault s (codes_of s) ≡ Ok tt)
  unfolding salvage_fault
  fine e = then_fine (room_fault (length s) entries room) (left_fault s (codes_of s)) e

  pub blocks_room : 512 * blocks ≤ room
  blocks_room = go (salvage_fault s entries room) refl
    where
      go : (c : Checked) → salvage_fault s entries room ≡ c → 512 * if_fine c (left_in (codes s)) ≤ room
      go (Ok _) e =
          let r = roomy (length s) entries room (fine e).0 in
          omega (arith, r.whole, r.out, left_most (codes s), row_length (looked s) (code_at s))
      go (Err r) e = omega arith

  pub answer_is : or_wrote (salvage_fault s entries room) (512 * blocks) ≡ salvage_answer s entries room
  unfolding salvage_answer codes_of
  answer_is = go (salvage_fault s entries room) refl
    where
      go : (c : Checked) → salvage_fault s entries room ≡ c → or_wrote c (512 * if_fine c (left_in (codes s))) ≡ or_wrote c (length (mended s))
      go (Ok _) e = rw (mended_left s entries room (fine e).0 (fine e).1, (roomy (length s) entries room (fine e).0).blocks_are)
      go (Err r) e = refl
