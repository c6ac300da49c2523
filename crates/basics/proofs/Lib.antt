-- Each word's laws, stated once.
--   ChoiceLaws       stops, passes, and_true, or_neither, pick_when, within_in, within_low, within_high, within_true, only_below, only_le, only_when, only_some
--   SumLaws          sum_none, sum_more, sum_le, sum_rises, sum_part, sum_bound, sum_eq, sum_one, sum_add, sum_some, sum_wider, sum_found, sum_first, sum_scale
--   MaxLaws          max_more, max_bound, max_le, max_rises, max_wider, max_part
--   AllLaws          all_none, all_more, all_at, all_fails, all_hold, all_zero
--   EachLaws         each_is, some_is, count_is
--   MadeLaws         made_from, row_made
--   FirstIndexLaws   first_none, first_more, First, first_is, first_by, first_here, first_eq
--   CountLaws        count_on, count_off, count_none, count_some, count_one, count_found, count_most, count_but, count_missed, sum_ones, sum_swap, count_number, count_alone
--   OnceLaws         both, and_both, pick_is, is_pick, some_count, first_below; Once, first_once, count_once, once_count
--   JoinLaws         join_none, join_more, join_length, join_room, join_eq, join_bound, join_even, join_at, join_from, join_through;
--                    join_whole, join_past, join_rest
--   RowLaws          row_length, row_at, row_is, row_eq; over_length, over_none, over_more, over_same; back_none, back_more, back_all
--   FallingLaws      at_most_more, insert_descends, falling_descends, take_descends, insert_front, insert_take, insert_length, falling_length
--   LargestLaws      largest_agrees, largest_more, largest_all
--   FillLaws         rest_at, back_at, whole_part, rest_length, back_plain, back_length; Filled, filled_none, filled_bytes, filled_part, filled_byte,
--                    filled_copy, filled_copied; put_none, put_all
--   CasesHold        the computed cases
pub mod ChoiceLaws
pub mod SumLaws
pub mod MaxLaws
pub mod AllLaws
pub mod EachLaws
pub mod MadeLaws
pub mod FirstIndexLaws
pub mod CountLaws
pub mod OnceLaws
pub mod JoinLaws
pub mod RowLaws
pub mod FallingLaws
pub mod LargestLaws
pub mod FillLaws
pub mod CasesHold
