-- Demand 1 holds.
-- Assumes nothing.
use Prim.Native.Nat.{ℕ, ◌+◌}
use mathlib.Core.Path.{◌≡◌, ◌∙◌, refl, sym, ap}
use mathlib.Core.Bool.{Bool, true, false}
use mathlib.Core.List.{List}
use native.Mathlib.Omega.{arith}
use lib.ListN.{length}
use lib.Dec.{leb}
use Rattle.basics.specs.Choice.{pick}
use Rattle.std.specs.Prelude.{Some, None}
use Rattle.table.specs.Answers.{answer_of}
use Rattle.page.specs.Pages.{fits_page}
use base.Logic.{id⊢}
use Rattle.basics.specs.Over.{join_to}
use Rattle.table.proofs.Determined.{number_determined, empty_determined}
use Rattle.rules.proofs.Determined.{first_of_determined, in_range_determined, times_in_range_determined, times_in_order_determined, times_determined, groups_in_range_determined, has_group_determined, all_or_none_determined, alpha_determined, used_in_range_determined, totals_fit_determined, pair_determined, asked_determined}
use Rattle.checking.proofs.Determined.{check_determined}
use Rattle.field.proofs.Determined.{time_determined, count_determined, ends_at_determined}
use Rattle.put.proofs.Determined.{put_time_determined, put_count_determined, put_text_determined, spaced_count_determined, count_len_determined, time_len_determined}
use Rattle.put.proofs.PutLaws.{short_is}
use Rattle.writing.specs.Write.{written}
use Rattle.line.proofs.Determined.{line_of_determined}
use Rattle.listing.proofs.Determined.{read_determined}
use Rattle.writing.proofs.Determined.{write_determined}
use Rattle.meaning.proofs.Refused.{listing_empty}
use Rattle.rounds.proofs.Determined.{outcome_of_determined}
use Rattle.shares.proofs.Determined.{shares_of_determined}
use Rattle.refusal.proofs.Determined.{put_refusal_determined}
use Rattle.checksum.proofs.Determined.{check_of_determined}
use Rattle.block.proofs.Determined.{put_block_determined, is_good_determined, head_of_determined, task_of_determined}
use Rattle.card.specs.Archive.{archiving}
use Rattle.card.proofs.Determined.{read_determined as card-read-determined, write_determined as card-write-determined}
use Rattle.release.proofs.Called.{archive_empty}
use Rattle.salvaging.specs.Salvage.{salvaged}
use Rattle.salvaging.proofs.Determined.{code_determined, blocks_of_determined, salvage_determined}
use Rattle.recovery.proofs.Listed.{list_kept, list_written}
use Rattle.analysis.specs.Answers.{record_count, analysed}
use Rattle.analysis.proofs.Determined.{bound_determined, analyse_all_determined, analyse_determined}
use Rattle.waits.proofs.Determined.{wait_determined, wait_all_determined}
use Rattle.merging.proofs.Determined.{merge_determined}
use Rattle.page.proofs.Determined.{page_of_determined, put_page_determined}
use Rattle.promises.specs.Demand1.{Entries, Determines, Keeps, KeepsOrLists, Demand1}
use Rattle.promises.proofs.RefusalsHold.{first_decides}

entries : Entries
entries =
    record {
      number = λ a r x p. p;
      check = λ a r x p. p;
      read = λ κs a r x p. p;
      write_answers = λ κs a r x p. p.0;
      write_leaves = λ κs a r x p. p.1;
      card_read = λ κs a r x p. p;
      card_write_answers = λ κs a r x p. p.0;
      card_write_leaves = λ κs a r x p. p.1;
      code = λ a r x p. p;
      blocks_of = λ a r x p. p;
      salvage_answers = λ κs a r x p. p.0;
      salvage_lists = λ κs a r x p. p.1;
      salvage_leaves = λ κs a r x p. p.2;
      merge = λ a r x p. p;
      bound = λ a r x p. p;
      wait = λ a r x p. p;
      wait_all = λ a r x p. p;
      analyse = λ {𝓤 = 𝓤} 𝓛 mem run κs a r x. id⊢ 𝓤 _;
      analyse_all = λ a r x p. λ j. record { answer = p.0 j; rows = p.1 j };
    }

determines : Determines
determines =
    record {
      number = number_determined;
      empty = empty_determined;
      check = check_determined;
      first_of = first_of_determined;
      in_range = in_range_determined;
      times_in_range = times_in_range_determined;
      times_in_order = times_in_order_determined;
      times = times_determined;
      groups_in_range = groups_in_range_determined;
      has_group = has_group_determined;
      all_or_none = all_or_none_determined;
      alpha = alpha_determined;
      used_in_range = used_in_range_determined;
      totals_fit = totals_fit_determined;
      pair = pair_determined;
      asked = asked_determined;
      time = time_determined;
      count = count_determined;
      ends_at = ends_at_determined;
      time_len = time_len_determined;
      count_len = count_len_determined;
      put_length = λ T laws d κs a x y r s p q. p ∙ sym q;
      put_text = put_text_determined;
      put_time = put_time_determined;
      put_count = put_count_determined;
      spaced_count = spaced_count_determined;
      line_of = line_of_determined;
      read = read_determined;
      write = write_determined;
      put_refusal = put_refusal_determined;
      check_of = check_of_determined;
      put_block = put_block_determined;
      is_good = is_good_determined;
      head_of = head_of_determined;
      task_of = task_of_determined;
      card_read = card-read-determined;
      card_write = card-write-determined;
      code = code_determined;
      blocks_of = blocks_of_determined;
      salvage = salvage_determined;
      merge = merge_determined;
      bound = bound_determined;
      outcome_of = outcome_of_determined;
      shares_of = shares_of_determined;
      analyse_all = analyse_all_determined;
      analyse = analyse_determined;
      wait = wait_determined;
      wait_all = wait_all_determined;
      page_of = page_of_determined;
      put_page = put_page_determined;
    }

-- ---- a refusal changes nothing

-- what was not put, by the test that says whether it is
not_put : (b : Bool) (n : ℕ) (text out : List ℕ) → pick b (Some n) None ≡ None → pick b text out ≡ out
not_put true n text out e = let z : ◌≡◌ {A = ℕ} 0 1 = cc in absurd (omega arith)
not_put false n text out e = refl

keeps : Keeps
unfolding analysed record_count join_to written archiving
keeps =
    record {
      row = λ t allowance row r e. rw e;
      output = λ t out r e. rw e;
      field = λ text out e. (short_is text out (sym e) refl).1;
      place = λ text at out e. not_put (leb (at + length text) (length out)) _ _ out e;
      page = λ p cells out e. not_put (fits_page p out) _ _ out e;
      table = λ s r e. listing_empty s r (ap answer_of e);
      archiving = λ t out r e. rw e;
      card = λ a r e. archive_empty a r (ap answer_of e);
    }

keeps_or_lists : KeepsOrLists
unfolding salvaged
keeps_or_lists = record { output = λ s entries out r e. rw e; list_kept = list_kept; list_written = list_written }

pub demand1 : Demand1
demand1 = record { entries = entries; determines = determines; keeps = keeps; keeps_or_lists = keeps_or_lists; first_decides = first_decides }
