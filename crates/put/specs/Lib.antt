-- What is written at the start of an output, or at a place of it (document 01, "The listing").
--   Text   the text of a count and of a time; what a writer answers
pub mod Text
