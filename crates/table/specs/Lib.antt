-- What a reader must believe of the table, in the paper's order.
--   Limits     "Quantities": the limits
--   Empty      the empty table
--   At         a task and a pair, by their figures and by index; when two tables are the same
--   Faults     "Refusals by number": the number of each, and how the first decides
--   Rules      the rules 4, 5, 7, 17 and 18, and "A table handed over directly is checked too"
--   Accepted   "Quantities" as bounds: what an accepted table holds
--   Refusals   with which number, and at which place, a table is refused, said a second way
--   Answers    what a reader and a writer of a table answer
--   Cleared    a table with zeros past the nth task
--   Without    a table without its alphas
--   Cases      tables and what the check says of them, computed
pub mod Limits
pub mod Empty
pub mod At
pub mod Faults
pub mod Rules
pub mod Accepted
pub mod Refusals
pub mod Answers
pub mod Cleared
pub mod Without
pub mod Cases
