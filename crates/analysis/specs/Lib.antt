-- What the analysis of a table answers.
--   Answers   what `bound`, `analyse` and `analyse_all` answer, and what the row then holds
pub mod Answers
