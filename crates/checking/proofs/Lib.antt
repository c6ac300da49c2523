--   Determined   two answers are equal
pub mod Determined
