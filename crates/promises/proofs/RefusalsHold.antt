-- A refusal is given exactly when it is called for (specs/Refusals.antt).
-- Assumes nothing.
use Prim.Native.Nat.{ℕ, ◌*◌, ◌<◌}
use mathlib.Core.Path.{◌≡◌, refl, sym, ap, ◌∙◌}
use mathlib.Core.Bool.{false, not}
use mathlib.Core.Logic.{◌⊎◌, inl, inr}
use native.Mathlib.Decide.{dec_lt}
use native.Mathlib.Omega.{arith}
use borrow.Author.Tests.{leb-true, le-leb, lt-leb}
use Rattle.basics.specs.Exactly.{◌exactly_if◌}
use lib.ListN.{length}
use lib.Dec.{leb}
use Rattle.basics.specs.Choice.{within}
use Rattle.basics.proofs.ChoiceLaws.{within_low, within_high}
use Rattle.table.specs.declared.Level.{Level}
use Rattle.table.specs.declared.Table.{Table}
use Rattle.table.specs.declared.Fault.TheVariants.{UnknownTask, TooShort, NoRounds, HasGroup}
use Rattle.table.specs.Faults.{Checked, Refuses, ◌then◌, unless}
use Rattle.std.specs.Prelude.{Option, Result, Ok, Err}
use Rattle.table.specs.declared.Refusal.{Refusal}
use Rattle.table.specs.Answers.{or_table, or_wrote}
use Rattle.table.specs.Rules.{has_group, table_fault}
use Rattle.table.specs.Refusals.{CallsFor}
use Rattle.table.proofs.Deciding.{one_number, is_rule, from_rule, from_two, by_first, fails}
use Rattle.table.proofs.RuleFacts.{range_is}
use Rattle.table.proofs.GroupLaws.{not_true, not_false, no_group_is, group_is}
use Rattle.table.proofs.RuleLaws.{unless_fine}
use Rattle.table.proofs.Acceptance.{fine_accepted, accepted_fine}
use Rattle.table.proofs.Called.{refused_as_called as table-refused}
use Rattle.meaning.proofs.ListingRefusals.{refused_as_called as listing-refused}
use Rattle.writing.specs.Write.{text_of, write_fault, write_answer}
use Rattle.block.specs.Block.{block_size}
use Rattle.card.specs.Archive.{archiving_fault, archiving_answer}
use Rattle.release.proofs.Called.{refused_as_called as archive-refused}
use Rattle.salvaging.specs.Salvage.{salvage_fault, salvage_answer}
use Rattle.recovery.proofs.Called.{salvaged_as_called}
use Rattle.theory.specs.Merge.{merged}
use Rattle.theory.specs.Tables.{counted_in}
use Rattle.analysis.specs.Answers.{bound_fault, bound_of, or_answer, analysis_fault}
use Rattle.waits.specs.Answers.{wait_fault, or_waiting, wait_answer, waits_after, all_waits}
use Rattle.promises.specs.Refusals.{BoundCallsFor, WaitCallsFor, RowCallsFor, OutputCallsFor, ArchivingCallsFor, FirstDecides}

module _ (t : Table) {k p : ℕ} where
  called : Refuses (table_fault t) k p → CallsFor t k p
  called = (table-refused.refused t k p).0

  given : CallsFor t k p → Refuses (table_fault t) k p
  given = (table-refused.refused t k p).1

-- a task that is not one of 1 to n
outside : (n i : ℕ) → within 1 n i ≡ false → (i ≡ 0) ⊎ (n < i)
outside n i e = go (dec_lt i 1) (dec_lt n i)
  where
    go : Dec (i < 1) → Dec (n < i) → (i ≡ 0) ⊎ (n < i)
    go (yes h) d = inl (omega arith)
    go (no h) (yes k) = inr k
    go (no h) (no k) = absurd (fails _ (range_is 1 n i).1 e (omega arith, omega arith))

outside_fails : (n i : ℕ) → (i ≡ 0) ⊎ (n < i) → within 1 n i ≡ false
outside_fails n i (inl e) = within_low 1 n i (omega arith)
outside_fails n i (inr h) = within_high 1 n i h

-- ---- a task

module _ (t : Table) (i : Level) (allowance : ℕ) where
  bound_called : (k p : ℕ) → Refuses (bound_fault t i allowance) k p → BoundCallsFor t i allowance k p
  unfolding bound_fault
  bound_called k p =
      from_two (table_fault t) _ k p (λ x. BoundCallsFor.own (called t x))
      (λ a. from_two (unless (within 1 t.n i.0) UnknownTask 0) (unless (leb 1 allowance) NoRounds 0) k p
      (from_rule (BoundCallsFor t i allowance) (within 1 t.n i.0) UnknownTask 0 k p (λ e. BoundCallsFor.unknown_task (fine_accepted t a) (outside t.n i.0 e)))
      (λ b. from_rule (BoundCallsFor t i allowance) (leb 1 allowance) NoRounds 0 k p
      (λ e. BoundCallsFor.no_rounds (fine_accepted t a) ((range_is 1 t.n i.0).0 (unless_fine _ UnknownTask 0 b)) (omega (arith, fails _ (le-leb 1 allowance) e)))))

  bound_given : {k p : ℕ} → BoundCallsFor t i allowance k p → Refuses (bound_fault t i allowance) k p
  unfolding bound_fault
  bound_given (BoundCallsFor.own x) = by_first (table_fault t) _ _ _ (given t x)
  bound_given (BoundCallsFor.unknown_task a h) = rw (accepted_fine t a) (by_first _ _ 10 0 (is_rule _ UnknownTask 0 (outside_fails t.n i.0 h)))
  bound_given (BoundCallsFor.no_rounds a r e) =
      rw (accepted_fine t a, (range_is 1 t.n i.0).1 r) (is_rule _ NoRounds 0 (lt-leb 1 allowance (omega arith)))

-- ---- a wait

module _ (t : Table) (i : Level) where
  wait_called : (k p : ℕ) → Refuses (wait_fault t i) k p → WaitCallsFor t i k p
  unfolding wait_fault
  wait_called k p =
      from_two (table_fault t) _ k p (λ x. WaitCallsFor.own (called t x))
      (λ a. from_rule (WaitCallsFor t i) (within 1 t.n i.0) UnknownTask 0 k p (λ e. WaitCallsFor.unknown_task (fine_accepted t a) (outside t.n i.0 e)))

  wait_given : {k p : ℕ} → WaitCallsFor t i k p → Refuses (wait_fault t i) k p
  unfolding wait_fault
  wait_given (WaitCallsFor.own x) = by_first (table_fault t) _ _ _ (given t x)
  wait_given (WaitCallsFor.unknown_task a h) = rw (accepted_fine t a) (is_rule _ UnknownTask 0 (outside_fails t.n i.0 h))

-- ---- a row

module _ (t : Table) (allowance room : ℕ) where
  row_called : (k p : ℕ) → Refuses (analysis_fault t allowance room) k p → RowCallsFor t allowance room k p
  unfolding analysis_fault
  row_called k p =
      from_two (table_fault t) _ k p (λ x. RowCallsFor.own (called t x))
      (λ a. from_two (unless (leb 1 allowance) NoRounds 0) (unless (leb t.n room) TooShort 0) k p
      (from_rule (RowCallsFor t allowance room) (leb 1 allowance) NoRounds 0 k p (λ e. RowCallsFor.no_rounds (fine_accepted t a) (omega (arith, fails _ (le-leb 1 allowance) e))))
      (λ b. from_rule (RowCallsFor t allowance room) (leb t.n room) TooShort 0 k p
      (λ e. RowCallsFor.too_short (fine_accepted t a) (leb-true 1 allowance (unless_fine _ NoRounds 0 b)) (omega (arith, fails _ (le-leb t.n room) e)))))

  row_given : {k p : ℕ} → RowCallsFor t allowance room k p → Refuses (analysis_fault t allowance room) k p
  unfolding analysis_fault
  row_given (RowCallsFor.own x) = by_first (table_fault t) _ _ _ (given t x)
  row_given (RowCallsFor.no_rounds a e) = rw (accepted_fine t a) (by_first _ _ 16 0 (is_rule _ NoRounds 0 (lt-leb 1 allowance (omega arith))))
  row_given (RowCallsFor.too_short a h l) = rw (accepted_fine t a, le-leb 1 allowance h) (is_rule _ TooShort 0 (lt-leb t.n room l))

-- ---- an output

module _ (t : Table) (needed room : ℕ) where
  output_called : (k p : ℕ) → Refuses (table_fault t then unless (leb needed room) TooShort 0) k p → OutputCallsFor t needed room k p
  output_called k p =
      from_two (table_fault t) _ k p (λ x. OutputCallsFor.own (called t x))
      (λ a. from_rule (OutputCallsFor t needed room) (leb needed room) TooShort 0 k p
      (λ e. OutputCallsFor.too_short (fine_accepted t a) (omega (arith, fails _ (le-leb needed room) e))))

  output_given : {k p : ℕ} → OutputCallsFor t needed room k p → Refuses (table_fault t then unless (leb needed room) TooShort 0) k p
  output_given (OutputCallsFor.own x) = by_first (table_fault t) _ _ _ (given t x)
  output_given (OutputCallsFor.too_short a h) = rw (accepted_fine t a) (is_rule _ TooShort 0 (lt-leb needed room h))

-- ---- an archive

module _ (t : Table) (room : ℕ) where
  abbrev grouped : Checked
  grouped = unless (not (has_group t.groups)) HasGroup 0

  archiving_called : (k p : ℕ) → Refuses (archiving_fault t room) k p → ArchivingCallsFor t room k p
  unfolding archiving_fault
  archiving_called k p =
      from_two (table_fault t) _ k p (λ x. ArchivingCallsFor.own (called t x))
      (λ a. from_two grouped (unless (leb (block_size * t.n) room) TooShort 0) k p
      (from_rule (ArchivingCallsFor t room) (not (has_group t.groups)) HasGroup 0 k p
      (λ e. let z = (group_is t).0 (not_false _ e) in ArchivingCallsFor.some_group (fine_accepted t a) z.0 z.1 z.2))
      (λ b. from_rule (ArchivingCallsFor t room) (leb (block_size * t.n) room) TooShort 0 k p
      (λ e. ArchivingCallsFor.too_short (fine_accepted t a) ((no_group_is t).0 (not_true _ (unless_fine _ HasGroup 0 b))) (omega (arith, fails _ (le-leb (block_size * t.n) room) e)))))

  archiving_given : {k p : ℕ} → ArchivingCallsFor t room k p → Refuses (archiving_fault t room) k p
  unfolding archiving_fault
  archiving_given (ArchivingCallsFor.own x) = by_first (table_fault t) _ _ _ (given t x)
  archiving_given (ArchivingCallsFor.some_group a k h l) = rw (accepted_fine t a) (by_first grouped _ 20 0 (is_rule (not (has_group t.groups)) HasGroup 0 (ap not ((group_is t).1 (k, h, l)))))
  archiving_given (ArchivingCallsFor.too_short a z h) =
      rw (accepted_fine t a, (no_group_is t).1 z) (is_rule _ TooShort 0 (lt-leb (block_size * t.n) room h))

-- ---- from a check to what is answered by it

-- of an answer that is made of a check, and refuses with r where the check does and only there
refuses_as : {A : Type 0} (made : Checked → Result A Refusal) → ((r : Refusal) → made (Err r) ≡ Err r) → ((r : Refusal) → made (Ok tt) ≡ Err r → ⊥)
    → (c : Checked) (k p : ℕ) → Refuses (made c) k p exactly_if Refuses c k p
refuses_as made is never (Ok _) k p = (λ x. absurd (never x.0 x.1), λ x. let z : ◌≡◌ {A = ℕ} 0 1 = cc x.1 in absurd (omega arith))
refuses_as made is never (Err q) k p =
    (λ x. (x.0, (let e : q ≡ x.0 = cc (sym (is q) ∙ x.1) in ap Err e), x.2), λ x. let e : q ≡ x.0 = cc x.1 in (x.0, is q ∙ ap Err e, x.2))

-- one that gives something where nothing is refused
given_is : {A : Type 0} (a : A) (r : Refusal) → Ok a ≡ Err r → ⊥
given_is a r e = let z : ◌≡◌ {A = ℕ} 0 1 = cc in omega arith

written_as : (n : ℕ) (c : Checked) (k p : ℕ) → Refuses (or_wrote c n) k p exactly_if Refuses c k p
written_as n = refuses_as (λ c. or_wrote c n) (λ r. refl) (given_is n)

waited_as : (w : Option ℕ) (c : Checked) (k p : ℕ) → Refuses (or_waiting c w) k p exactly_if Refuses c k p
waited_as w = refuses_as (λ c. or_waiting c w) (λ r. refl) (given_is w)

-- one after the other
both : {P Q R : Type 0} → P exactly_if Q → Q exactly_if R → P exactly_if R
both f g = (λ x. g.0 (f.0 x), λ x. f.1 (g.1 x))

pub first_decides : FirstDecides
unfolding write_fault write_answer archiving_fault archiving_answer bound_of wait_answer all_waits salvage_answer
first_decides =
    record {
      numbers = one_number;
      table = table-refused;
      listing = listing-refused;
      card = archive-refused;
      salvage = salvaged_as_called;
      salvage_written = λ s entries room k p. both (written_as _ (salvage_fault s entries room) k p) (salvaged_as_called.refused s entries room k p);
      merge = λ t k p. both (refuses_as (λ c. or_table c (merged t)) (λ r. refl) (given_is _) (table_fault t) k p) (table-refused.refused t k p);
      bound = λ t i allowance k p. both (refuses_as (λ c. or_answer c (Ok (counted_in t allowance i))) (λ r. refl) (given_is _) (bound_fault t i allowance) k p) (bound_called t i allowance k p, bound_given t i allowance);
      wait = λ t i k p. both (waited_as _ (wait_fault t i) k p) (wait_called t i k p, wait_given t i);
      waits = λ t k p. both (refuses_as (λ c. waits_after c t) (λ r. refl) (given_is _) (table_fault t) k p) (table-refused.refused t k p);
      row = λ t allowance room k p. (row_called t allowance room k p, row_given t allowance room);
      output = λ t room k p. both (written_as _ (write_fault t room) k p) (output_called t (length (text_of t)) room k p, output_given t (length (text_of t)) room);
      archiving = λ t room k p. both (written_as _ (archiving_fault t room) k p) (archiving_called t room k p, archiving_given t room);
    }
