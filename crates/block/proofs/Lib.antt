-- Laws of a block.
--   NumberLaws   numbers in bytes, read and put
--   BlockLaws    how long the parts of a block are, and the parts put one after the other
--   Determined   two answers are equal
pub mod NumberLaws
pub mod BlockLaws
pub mod Determined
