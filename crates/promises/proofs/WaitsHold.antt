-- Request 8/12 holds.
-- Assumes nothing.
use Prim.Native.Nat.{ℕ, zero, suc, ◌+◌, ◌/◌, ◌%◌, ◌^◌, ◌≤◌, ◌<◌}
use mathlib.Core.Path.{◌≡◌, sym, ap, ◌∙◌}
use mathlib.Core.Bool.{true, false}
use mathlib.Core.List.{List, []}
use mathlib.Core.Logic.{◌⊎◌, inl, inr}
use native.Mathlib.Decide.{dec_le}
use native.Mathlib.Omega.{arith}
use borrow.Author.Tests.{lt-ltb, le-ltb}
use lib.Dec.{ltb}
use lib.ListN.{get_or}
use lib.Seq.{get_or_at}
use Rattle.basics.specs.Text.{bytes}
use Rattle.basics.specs.Over.{first_to}
use Rattle.basics.proofs.ChoiceLaws.{within_in}
use Rattle.basics.proofs.RowLaws.{row_at}
use Rattle.basics.proofs.LargestLaws.{largest_agrees}
use Rattle.table.specs.declared.Table.{Table}
use Rattle.std.specs.Prelude.{Some, None, Ok}
use Rattle.table.specs.Limits.{max_tasks}
use Rattle.table.specs.At.{alpha_at, NoAlpha}
use Rattle.table.specs.Rules.{has_alpha, table_fault}
use Rattle.table.specs.Answers.{accepted}
use Rattle.table.specs.Without.{SameButAlpha}
use Rattle.table.proofs.Acceptance.{fine_accepted}
use Rattle.put.specs.Text.{digits_of, width, count_text}
use Rattle.put.proofs.TextLaws.{digits_length}
use Rattle.listing.specs.Read.{read_listing}
use Rattle.theory.specs.declared.Counted.{Counted}
use Rattle.theory.specs.View.{level}
use Rattle.theory.specs.Tables.{merged_view, counted_in}
use Rattle.meaning.proofs.Meaning.{passes_check}
use Rattle.analysis.specs.Answers.{bound_of}
use Rattle.analysis.proofs.ByRounds.{bound_known}
use Rattle.waits.specs.Answers.{wait_fault, wait_answer, slot_wait, waits_of, wait_in, all_waits}
use Rattle.page.specs.declared.Columns.TheVariants.{Five}
use Rattle.page.specs.Report.{report_allowance, wait_text}
use Rattle.promises.specs.Waits.{HaveAlpha, PrintsWaits, AnswersWaits, Waits}
use Rattle.promises.proofs.ReportLaws.{report_accepted}
use Rattle.promises.proofs.ThreeTasks.{some_allowed}
use Rattle.promises.proofs.ReadsHold.{verdict_reads}
use Rattle.promises.proofs.AlphaLaws.{unread, unchanged, wait_more, wait_same, of_all}

-- ---- alpha for all tasks or none, told by the first

has : (t : Table) → 1 ≤ t.n → HaveAlpha t → has_alpha t 0 ≡ true
has t h a = lt-ltb 0 (alpha_at t 0) (a 0 h)

has_none : (t : Table) → 1 ≤ t.n → NoAlpha t → has_alpha t 0 ≡ false
has_none t h z = le-ltb 0 (alpha_at t 0) (omega (arith, z 0 h))

either : (t : Table) → table_fault t ≡ Ok tt → HaveAlpha t ⊎ NoAlpha t
either t e = go (dec_le 1 (alpha_at t 0))
  where
    first : 0 < t.n
    first = (fine_accepted t e).tasks_least

    go : Dec (1 ≤ alpha_at t 0) → HaveAlpha t ⊎ NoAlpha t
    go (yes h) = inl (λ i l. (fine_accepted t e).all_or_none 0 i first l h)
    go (no h) = inr (λ i l. none i l (dec_le 1 (alpha_at t i)))
      where
        none : (i : ℕ) → i < t.n → Dec (1 ≤ alpha_at t i) → alpha_at t i ≡ 0
        none i l (yes k) = absurd (h ((fine_accepted t e).all_or_none i 0 l first k))
        none i l (no k) = omega arith

not_both : (t : Table) → 1 ≤ t.n → HaveAlpha t → NoAlpha t → ⊥
not_both t h a z = omega (arith, a 0 h, z 0 h)

-- ---- what is answered

module _ (t : Table) (fine : table_fault t ≡ Ok tt) where
  some : 1 ≤ t.n
  some = (fine_accepted t fine).tasks_least

  known : (i : ℕ) → i < t.n → wait_fault t (level i) ≡ Ok tt
  unfolding wait_fault
  known i h = rw (fine, within_in 1 t.n (suc i) (omega arith) h)

  with_alphas : HaveAlpha t → all_waits t ≡ Ok (Some (waits_of t))
  unfolding all_waits
  with_alphas a = rw (fine, has t some a)

  without : NoAlpha t → all_waits t ≡ Ok None
  unfolding all_waits
  without z = rw (fine, has_none t some z)

  only_with : HaveAlpha t ⊎ NoAlpha t → (waits : List ℕ) → all_waits t ≡ Ok (Some waits) → HaveAlpha t
  only_with (inl a) waits e = a
  only_with (inr z) waits e = let x = without z in let y : ◌≡◌ {A = ℕ} 0 1 = cc in absurd (omega arith)

  only_without : HaveAlpha t ⊎ NoAlpha t → all_waits t ≡ Ok None → NoAlpha t
  only_without (inr z) e = z
  only_without (inl a) e = let x = with_alphas a in let y : ◌≡◌ {A = ℕ} 0 1 = cc in absurd (omega arith)

  answers : AnswersWaits t
  unfolding wait_answer
  answers =
      record {
        all_or_none = either t fine;
        wait = λ a i h. rw (known i h, has t some a);
        no_wait = λ z i h. rw (known i h, has_none t some z);
        given = (λ g. only_with (either t fine) g.0 g.1, λ a. (waits_of t, with_alphas a));
        none = (only_without (either t fine), without);
        all = λ waits e i h.
            let x = with_alphas (only_with (either t fine) waits e) in
            let same : waits ≡ waits_of t = cc in
            rw same (row_at max_tasks i (slot_wait t) 0 (omega (arith, (fine_accepted t fine).tasks_most)) ∙ rw (lt-ltb i t.n h));
      }

-- ---- what is printed

-- the last of the digits of a count is no dash
digits_last : (k n : ℕ) → digits_of (suc k) n ≡ bytes "-" → ⊥
digits_last k n e =
    let last : get_or (digits_of (suc k) n) k 0 ≡ 48 + n % 10 = get_or_at (digits_of k (n / 10)) (48 + n % 10) [] 0 k (digits_length k (n / 10)) in
    go k (sym last ∙ ap (λ (l : List ℕ). get_or l k 0) e)
  where
    go : (k : ℕ) → 48 + n % 10 ≡ get_or (bytes "-") k 0 → ⊥
    go zero e = omega arith
    go (suc k) e = omega arith

no_dash : (w : ℕ) → count_text w ≡ bytes "-" → ⊥
unfolding count_text width
no_dash w e = digits_last (first_to 19 (λ k. ltb w (10 ^ suc k))) w e

printed : (s : List ℕ) (t : Table) → read_listing s ≡ accepted t → (row : ℕ → Counted) × (cell : ℕ → List ℕ) × PrintsWaits s t row cell
printed s t e =
    let fine = passes_check s t e in
    let some = (fine_accepted t fine).tasks_least in (
      λ i. counted_in t report_allowance (level i),
      λ i. wait_text (has_alpha t 0) (wait_in t (level i)),
      record {
        text = report_accepted Five report_allowance s t some_allowed e;
        answer = λ i h. bound_known t i report_allowance fine h some_allowed;
        wait = λ a i h. rw (has t some a);
        dash = λ i h. (λ d. without (either t fine) i d, λ z. rw (has_none t some z));
      },
    )
  where
    without : HaveAlpha t ⊎ NoAlpha t → (i : ℕ) → wait_text (has_alpha t 0) (wait_in t (level i)) ≡ bytes "-" → NoAlpha t
    without (inr z) i d = z
    without (inl a) i d = absurd (no_dash (wait_in t (level i)) (rw (has t (fine_accepted t (passes_check s t e)).tasks_least a) at d))

-- ---- what does not read alpha

verdicts : (a b : Table) → table_fault a ≡ Ok tt → table_fault b ≡ Ok tt → SameButAlpha a b → (i allowance : ℕ) → i < a.n → bound_of b (level i) allowance ≡ bound_of a (level i) allowance
verdicts a b e f same i allowance h =
    verdict_reads.run_below (level (suc i)) a b i (record { first = e; second = f; related = (omega arith, unchanged a b same _) }) h allowance

pub waits_hold : Waits
waits_hold =
    record {
      answers = answers;
      printed = printed;
      largest = largest_agrees;
      unread = unread;
      verdicts = verdicts;
      raised = λ a b s i h l. rw (← wait_same (merged_view a) (merged_view b) (unchanged a b s _) (alpha_at b i) i h) at (wait_more (merged_view a) (alpha_at a i) (alpha_at b i) (level i) l);
      of_all = of_all;
    }
