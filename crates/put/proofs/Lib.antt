-- Laws of what is written.
--   TextLaws     widths and digits
--   TimeLaws     fractions and times
--   PutLaws      what a writer answers, and what its answer says to its caller
--   OutputLaws   an output that is filled from the front, writer by writer
--   PlaceLaws    a text that is put at a place of an output
--   Determined   two answers are equal
pub mod TextLaws
pub mod TimeLaws
pub mod PutLaws
pub mod OutputLaws
pub mod PlaceLaws
pub mod Determined
