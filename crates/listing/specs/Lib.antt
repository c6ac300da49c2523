-- A listing to a table (document 01, "The listing").
--   Lines      the lines of a listing
--   Read       what a listing says, or the first refusal and its place
--   ReadCases  listings and what is read of each, computed
-- and, cited by the contracts of private functions alone, so that no reader has to believe it:
--   FirstLine  the line at a place
--   Room       what a line must be for the table to have room for what it says
pub mod Lines
pub mod Read
pub mod ReadCases
pub mod FirstLine
pub mod Room
