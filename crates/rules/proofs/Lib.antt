--   Product      a product of two numbers of the table fits
--   Determined   two answers are equal
pub mod Product
pub mod Determined
