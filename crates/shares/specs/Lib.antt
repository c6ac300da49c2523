-- The code that cuts a table down to what the analysis of one task reads, against the definitions of `theory`.
--   Cutting   what `shares_of` answers
-- and, cited by the contracts of private functions alone, so that no reader has to believe it:
--   Pass      what the two passes over the tasks keep, and the share that they make of each
pub mod Cutting
pub mod Pass
