-- A table to a listing (document 01, "The listing").
--   Line      a line, by its word and its fields
--   Write     the text of a table, and what the writer answers
--   Longest   how long the text of an accepted table can be
pub mod Line
pub mod Write
pub mod Longest
