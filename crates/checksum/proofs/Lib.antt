-- Laws of the check.
--   SumLaws      the sum, pair by pair
--   CasesHold    the cases, computed
--   Determined   two answers are equal
pub mod SumLaws
pub mod CasesHold
pub mod Determined
