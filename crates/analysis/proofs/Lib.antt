-- Laws and theorems of the analysis' code.
--   RowLaws      what is known where nothing is refused, how many records are written, and the row afterwards
--   ByRounds     the rounds of a task of a table in bounds
--   Determined   two answers are equal
pub mod RowLaws
pub mod ByRounds
pub mod Determined
