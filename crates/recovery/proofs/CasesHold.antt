-- The cards are as computed.
-- Assumes nothing.
use mathlib.Core.Path.{refl}
use Rattle.basics.specs.Over.{sum_to, all_to, first_to, join_to}
use Rattle.table.specs.Empty.{empty_task}
use Rattle.table.specs.Faults.{first_fault}
use Rattle.table.specs.Rules.{times_in_range, times_in_order, times_fault, groups_in_range, is_unused, used_in_range, pair_in_range, totals_fit, pair_fault, pairs_fault, alpha_fault, task_fault, last_alpha, tasks_fault, table_fault}
use Rattle.checksum.specs.Sum.{word_at, ones_plus, ones_sum, check_of}
use Rattle.block.specs.Numbers.{in_bytes, number_at}
use Rattle.block.specs.Block.{head_bytes, times_bytes, entry_bytes, entries_bytes, body_of, block_of, marked_block, good_block, head_in, pair_in, task_in}
use Rattle.card.specs.Archive.{table_in}
use Rattle.salvaging.specs.Fates.{same_bytes, is_doubled, fate_at, codes_of}
use Rattle.salvaging.specs.Salvage.{left_in, first_left, joins, all_join, how_many, each_once, is_complete, place_of, in_order, is_card, has_room, room_fault, left_fault, salvage_fault}
use Rattle.recovery.specs.Cases.{cases, CasesHold}

pub cases_hold : CasesHold
unfolding sum_to all_to first_to join_to first_fault times_in_range times_in_order times_fault groups_in_range is_unused used_in_range pair_in_range totals_fit pair_fault pairs_fault alpha_fault task_fault last_alpha tasks_fault table_fault empty_task table_in word_at ones_plus ones_sum check_of in_bytes number_at head_bytes times_bytes entry_bytes entries_bytes body_of block_of marked_block good_block head_in pair_in task_in same_bytes is_doubled fate_at codes_of left_in first_left joins all_join how_many each_once is_complete place_of in_order is_card has_room room_fault left_fault salvage_fault cases
cases_hold = record { lists = refl; completeness = refl; archive = refl; faults = refl; lengths = refl; short = refl }
