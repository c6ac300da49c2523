-- Assumes nothing.
use mathlib.Core.Path.{refl}
use Rattle.basics.specs.Over.{sum_to, all_to, join_to}
use Rattle.table.specs.Empty.{empty_task, empty_table}
use Rattle.table.specs.Faults.{first_fault}
use Rattle.table.specs.Rules.{times_in_range, times_in_order, times_fault, groups_in_range, is_unused, used_in_range, pair_in_range, totals_fit, pair_fault, pairs_fault, alpha_fault, task_fault, last_alpha, tasks_fault, table_fault}
use Rattle.table.specs.Cleared.{cleared_task, cleared}
use Rattle.checksum.specs.Sum.{word_at, ones_plus, ones_sum, check_of}
use Rattle.block.specs.Numbers.{in_bytes, number_at}
use Rattle.block.specs.Block.{head_bytes, times_bytes, entry_bytes, entries_bytes, body_of, block_of, marked_block, good_block, head_in, pair_in, task_in}
use Rattle.card.specs.Archive.{is_length, agrees, block_fault, blocks_fault, table_in, archive_fault, read_archive}
use Rattle.release.specs.Cases.{CasesHold}

pub cases_hold : CasesHold
unfolding sum_to all_to join_to first_fault times_in_range times_in_order times_fault groups_in_range is_unused used_in_range pair_in_range totals_fit pair_fault pairs_fault alpha_fault task_fault last_alpha tasks_fault table_fault empty_task empty_table cleared_task cleared is_length agrees block_fault blocks_fault table_in archive_fault read_archive word_at ones_plus ones_sum check_of in_bytes number_at head_bytes times_bytes entry_bytes entries_bytes body_of block_of marked_block good_block head_in pair_in task_in
cases_hold = record { begins = refl; checks = refl; good = refl; bad = refl; read = refl; head_read = refl; largest = refl; archive = refl; refusals = refl }
