--   RowLaws      how long a word is, and the row with a verdict's cells
--   Reports      the page row by row
--   Printed      the text that a program prints, from the page and the cells that it hands over
--   Determined   two answers are equal
pub mod RowLaws
pub mod Reports
pub mod Printed
pub mod Determined
