-- One line of a listing (document 01, "The listing").
--   Fields    the fields of a line
--   Line      what a line says, or its first refusal
--   Stated    a line of words, and what its fields state, said a second way
--   Refusals  which number a line calls for, said a second way
-- and, cited by the contracts of private functions alone, so that no reader has to believe it:
--   Places    a field by its place
pub mod Fields
pub mod Line
pub mod Stated
pub mod Refusals
pub mod Places
