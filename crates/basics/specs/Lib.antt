-- The words that definitions are made of.
--   Choice   pick, only, within
--   Over     sum_to, count_to, max_to, all_to, first_to, join_to, row_to: over the indices below n
--   Largest  sum_largest: the sum of the A largest of a row
--   Text     bytes "cpus 2\n", put_into, line_of
--   Exactly  ◌exactly_if◌
--   Determined   when a contract determines the answer
--   Cases    computed: the sum of the A largest
pub mod Choice
pub mod Over
pub mod Largest
pub mod Text
pub mod Exactly
pub mod Determined
pub mod Cases
