-- The analysis of HURRAY-TR-090908 as document 01 gives it, in the order of its equations.
--   Work      (4), (5): the workload, since request 3/12 at most t; the one quotient, rounded up
--   View      what the analysis reads of a table; the ceiling of a resource
--   Demand    (6) to (11): DB, S, O, F, L and the demand
--   Bound     the bound of a task, or a miss
--   Rounds    request 6/12: the rounds that lead to the verdict, counted, with an allowance and without
--   Merge     request 9/12: a table with each group as one resource
--   Groups    the same said a second way, without slots; and what holds of the merged pairs of an accepted table
--   Tables    a table as the analysis reads it; the verdict on a task of it, and its rounds
--   Cases     the paper's point on the quotient, a demand that tells the terms from the slips, its rounds under an allowance, and merged pairs
pub mod Work
pub mod View
pub mod Demand
pub mod Bound
pub mod Rounds
pub mod Merge
pub mod Groups
pub mod Tables
pub mod Cases
