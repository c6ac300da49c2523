-- Number fields (document 01, "The listing"; document 02, 1/12).
--   Number         what a field at the start of a text reads as, and how a time is rounded
--   Spelling       the same said a second way: what a field has to be to state a number, and which microsecond it is rounded to
--   ThreeDecimals  a time as document 01 has it, by which nothing is read any more: what 'as before' means
--   Cases          the paper's fields, computed
-- and, cited by the contract of a private function alone, so that no reader has to believe it:
--   Runs           a run of digits as the code counts it
pub mod Number
pub mod Spelling
pub mod ThreeDecimals
pub mod Cases
pub mod Runs
