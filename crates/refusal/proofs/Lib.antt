-- Laws of the line.
--   LineLaws     how long it is
--   Determined   two answers are equal
pub mod LineLaws
pub mod Determined
