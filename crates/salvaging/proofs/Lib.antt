-- Laws of a card with bad blocks.
--   RangeLaws    `find`, `all` and `filter` over indices, as the definitions have them
--   BlockLaws    a block of the input as it is handed on
--   FateLaws     blocks that are the same, and what becomes of a block, case by case
--   LeftLaws     the blocks left: how many they are, and where the one with a number is, if they are complete
--   MendLaws     the blocks in the order of their numbers: the table that they say, and the blocks put one after the other
--   AnswerLaws   the blocks of an input, and what is known where neither 15 nor 11 is given
--   FoundLaws    what is found out, and what is then written
--   Determined   two answers are equal
pub mod RangeLaws
pub mod BlockLaws
pub mod FateLaws
pub mod LeftLaws
pub mod MendLaws
pub mod AnswerLaws
pub mod FoundLaws
pub mod Determined
