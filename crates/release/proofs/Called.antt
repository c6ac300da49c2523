-- An archive is refused exactly as it calls for (specs/Refusals.antt).
-- Assumes nothing.
use Prim.Native.Nat.{ℕ, ◌+◌, ◌≤◌, ◌<◌}
use mathlib.Core.Path.{◌≡◌, refl, sym, ◌∙◌}
use mathlib.Core.Bool.{Bool}
use mathlib.Core.Logic.{◌⊎◌, inl, inr}
use mathlib.Core.List.{List}
use native.Mathlib.Omega.{arith}
use lib.ListN.{length}
use Rattle.table.specs.declared.Fault.TheVariants.{BadLength, BadBlock, Mismatch}
use Rattle.table.specs.declared.Refusal.{Refusal}
use Rattle.table.specs.Faults.{Checked}
use Rattle.std.specs.Prelude.{Ok, Err}
use Rattle.table.specs.Faults.{Refuses, ◌then◌, unless, first_fault}
use Rattle.table.specs.Empty.{empty_table}
use Rattle.table.specs.Answers.{or_table, answer_of, table_from}
use Rattle.table.specs.Rules.{table_fault}
use Rattle.table.proofs.Deciding.{two_decide, many_decide, rule_is, is_rule, fails, failing}
use Rattle.table.proofs.Called.{refused_as_called as table-refused, number_few}
use Rattle.table.proofs.FirstLaws.{first_fine, each_fine}
use Rattle.table.proofs.RuleLaws.{unless_fine}
use Rattle.table.proofs.Acceptance.{fine_accepted, accepted_fine}
use Rattle.block.specs.Block.{good_block, head_in}
use Rattle.card.specs.Archive.{block_at, blocks_in, is_length, agrees, block_fault, block_fault_at, blocks_fault, table_in, archive_fault, read_archive}
use Rattle.card.proofs.ReadLaws.{answer_is, card_none}
use Rattle.release.specs.Refusals.{Whole, GoodBlock, InPlace, FirstGood, CallsFor, bad_length, bad_block, mismatch, table, RefusedAsCalled}
use Rattle.release.proofs.GoodLaws.{good_is, is_good, agrees_is, is_agreed}
use Rattle.release.proofs.Parts.{whole_blocks, whole_is, is_whole, block_good, block_fine, fine_kept, kept_fine}

-- ---- a block

module _ (a : List ℕ) (w : Whole a (blocks_in a)) (i : ℕ) (h : i < blocks_in a) (before : FirstGood a (blocks_in a) i) where
  block_calls : (k p : ℕ) → Refuses (block_fault_at a i) k p → CallsFor a k p
  unfolding block_fault
  block_calls k p x = go ((two_decide (unless (good_block (block_at a i)) BadBlock (i + 1)) _ k p).0 x)
    where
      test : Bool
      test = agrees (head_in (block_at a 0)) (blocks_in a) (i + 1) (head_in (block_at a i))

      go : Refuses (unless (good_block (block_at a i)) BadBlock (i + 1)) k p
          ⊎ ((unless (good_block (block_at a i)) BadBlock (i + 1) ≡ Ok tt) × Refuses (unless test Mismatch (i + 1)) k p) → CallsFor a k p
      go (inl y) =
          let r = rule_is (good_block (block_at a i)) BadBlock (i + 1) k p y in
          rw (← r.1, ← r.2) (bad_block (blocks_in a) i w h before (fails _ (is_good (block_at a i)) r.0))
      go (inr y) =
          let r = rule_is test Mismatch (i + 1) k p y.1 in
          rw (← r.1, ← r.2) (mismatch (blocks_in a) i w h before (good_is (block_at a i) (unless_fine _ BadBlock (i + 1) y.0)) (fails _ (is_agreed a (blocks_in a) i) r.0))

pub refused_calls : (a : List ℕ) (k p : ℕ) → Refuses (archive_fault a) k p → CallsFor a k p
unfolding archive_fault blocks_fault
refused_calls a k p x = go ((two_decide (unless (is_length (length a)) BadLength 0) _ k p).0 x)
  where
    blocks : Checked
    blocks = first_fault (blocks_in a) (block_fault_at a)

    later : Whole a (blocks_in a) → Refuses blocks k p ⊎ ((blocks ≡ Ok tt) × Refuses (table_fault (table_in a)) k p) → CallsFor a k p
    later w (inl y) =
        let f = (many_decide (blocks_in a) (block_fault_at a) k p).0 y in
        block_calls a w f.0 f.1 (λ j l. block_good a j (f.3 j l)) k p f.2
    later w (inr y) = table (blocks_in a) w (λ j l. block_good a j (each_fine (blocks_in a) (block_fault_at a) y.0 j l)) ((table-refused.refused (table_in a) k p).0 y.1)

    go : Refuses (unless (is_length (length a)) BadLength 0) k p ⊎ ((unless (is_length (length a)) BadLength 0 ≡ Ok tt) × Refuses (blocks then table_fault (table_in a)) k p) → CallsFor a k p
    go (inl y) =
        let r = rule_is (is_length (length a)) BadLength 0 k p y in
        rw (← r.1, ← r.2) (bad_length (λ n. fails _ (is_whole a n) r.0))
    go (inr y) = later (whole_is a (unless_fine _ BadLength 0 y.0)) ((two_decide blocks (table_fault (table_in a)) k p).0 y.1)

-- ---- what is called for is given

module _ (a : List ℕ) (w : Whole a (blocks_in a)) where
  -- after the length: of a block, where those before it are good and in place
  block_given : (i k p : ℕ) → i < blocks_in a → FirstGood a (blocks_in a) i → Refuses (block_fault_at a i) k p → Refuses (archive_fault a) k p
  unfolding archive_fault blocks_fault
  block_given i k p h before x =
      rw (is_whole a (blocks_in a) w)
      ((two_decide (first_fault (blocks_in a) (block_fault_at a)) (table_fault (table_in a)) k p).1
      (inl ((many_decide (blocks_in a) (block_fault_at a) k p).1 (i, h, x, λ j l. block_fine a j (before j l).0 (before j l).1))))

  -- and of the table, where all are
  table_given : (k p : ℕ) → FirstGood a (blocks_in a) (blocks_in a) → Refuses (table_fault (table_in a)) k p → Refuses (archive_fault a) k p
  unfolding archive_fault blocks_fault
  table_given k p all x = rw (is_whole a (blocks_in a) w, first_fine (blocks_in a) (block_fault_at a) (λ j l. block_fine a j (all j l).0 (all j l).1)) x

  bad_given : (i : ℕ) → (GoodBlock (block_at a i) → ⊥) → Refuses (block_fault_at a i) 13 (i + 1)
  unfolding block_fault
  bad_given i n = (two_decide _ _ 13 (i + 1)).1 (inl (is_rule (good_block (block_at a i)) BadBlock (i + 1) (failing _ (good_is (block_at a i)) n)))

  mismatch_given : (i : ℕ) → GoodBlock (block_at a i) → (InPlace a (blocks_in a) i → ⊥) → Refuses (block_fault_at a i) 14 (i + 1)
  unfolding block_fault
  mismatch_given i g n = rw (is_good (block_at a i) g) (is_rule _ Mismatch (i + 1) (failing _ (agrees_is a (blocks_in a) i) n))

pub calls_refused : (a : List ℕ) (k p : ℕ) → CallsFor a k p → Refuses (archive_fault a) k p
unfolding archive_fault
calls_refused a _ _ (bad_length n) =
    (two_decide _ _ 12 0).1 (inl (is_rule (is_length (length a)) BadLength 0 (failing _ (whole_is a) (n (blocks_in a)))))
calls_refused a _ _ (bad_block n i w h before x) =
    let e = sym (whole_blocks w) in
    block_given a (rw e at w) i 13 (i + 1) (rw e at h) (rw e at before) (bad_given a (rw e at w) i x)
calls_refused a _ _ (mismatch n i w h before g x) =
    let e = sym (whole_blocks w) in
    block_given a (rw e at w) i 14 (i + 1) (rw e at h) (rw e at before) (mismatch_given a (rw e at w) i g (rw e at x))
calls_refused a k p (table n w all x) =
    let e = sym (whole_blocks w) in
    table_given a (rw e at w) k p (rw e at all) ((table-refused.refused (table_in a) k p).1 x)

-- ---- which numbers there are: 4, 5, 7, and 12 to 14

called_number : (a : List ℕ) (k p : ℕ) → CallsFor a k p → (k ≤ 7) ⊎ ((12 ≤ k) × (k ≤ 14))
unfolding table_in
called_number a _ _ (bad_length n) = inr (omega arith, omega arith)
called_number a _ _ (bad_block n i w h before x) = inr (omega arith, omega arith)
called_number a _ _ (mismatch n i w h before g x) = inr (omega arith, omega arith)
called_number a k p (table n w all x) = let e = whole_blocks w in inl (number_few {t = table_in a} (card_none a) (rw e w.least, rw e w.most) x)

-- a refused reading gives no table
pub archive_empty : (a : List ℕ) (r : Refusal) → answer_of (read_archive a) ≡ Err r → table_from (read_archive a) ≡ empty_table
unfolding read_archive
archive_empty a r = go (archive_fault a)
  where
    go : (c : Checked) → answer_of (or_table c (table_in a)) ≡ Err r → table_from (or_table c (table_in a)) ≡ empty_table
    go (Ok _) e = let z : ◌≡◌ {A = ℕ} 0 1 = cc in absurd (omega arith)
    go (Err x) e = refl

pub refused_as_called : RefusedAsCalled
refused_as_called =
    record {
      refused = λ a k p. (λ x. refused_calls a k p (rw (answer_is a) at x), λ x. rw (answer_is a) (calls_refused a k p x));
      accepted = λ a. (
        λ e. let k = fine_kept a (sym (answer_is a) ∙ e) in (blocks_in a, k.whole, k.good, fine_accepted (table_in a) k.table),
        λ x.
            let e = sym (whole_blocks x.1) in
            answer_is a ∙ kept_fine a (record { whole = rw e at x.1; good = rw e at x.2; table = accepted_fine (table_in a) x.3 }),
      );
      numbers = λ a k p x. called_number a k p (refused_calls a k p (rw (answer_is a) at x));
    }
