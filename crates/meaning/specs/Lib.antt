-- What reading and writing mean, as statements over the definitions of `line`, `listing` and `writing`.
--   Figures   the reading of an accepted listing said a second way: the figures that its lines state, their rules, their table
--   Sides     on which side of what was typed each figure of a table lies
--   Meaning   reading: correct, complete, unambiguous, and what it accepts the check of a table accepts
--   Refusals  which listings are refused, with which number and place, said a second way
--   Back      writing: what is written reads back
pub mod Figures
pub mod Sides
pub mod Meaning
pub mod Refusals
pub mod Back
