-- Laws of the reader.
--   LineLaws     the lines of a listing, from a place on
--   ReadLaws     what is read from a place on: the laws of the reader's loop
--   CasesHold    the cases, computed
--   Determined   two answers are equal
pub mod LineLaws
pub mod ReadLaws
pub mod CasesHold
pub mod Determined
