-- What Footplatter guarantees. Read these files, and the definitions that they cite, and nothing else.
--   Demand1   every input gets an answer, the contract determines it; a refusal is given, with its number and place, exactly when the paper calls for it, and changes nothing
--   Refusals  of it: a refusal is given exactly when it is called for, each case by itself
--   Demand2   the bound is the right one, a table holds what its listing states, which is one thing only, and what is written reads back
--   NoEasier  demand 3 and request 7/12, as one result: a table that is no easier never gives a smaller bound
--   NotEmpty  pairs of tables that show it, computed
--   Decimals  request 1/12: which fields are times of up to six decimals, and on which side of what was typed each figure lies
--   Archives  request 2/12: writing and reading an archive undo each other but for request 8/12's alphas, of tables without request 9/12's groups, one archive for one table, and a changed byte is noticed
--   Window    request 3/12: no workload is more than t in a window of t, none falls as x grows, and every bound is kept or smaller
--   Salvages  request 5/12: what is made of a card with bad blocks is an archive, nothing is invented, and a spoiled card gives its archive back
--   Rounds    request 6/12: how many rounds a verdict takes, at most D − C + 1, and what an allowance of them makes of it
--   Reads     which figures of a table a verdict reads, and of which tasks; a run time changes nothing for the tasks above it
--   EachRead  tables that show it, computed
--   Responds  what a report promises about the console: in every run on a kernel of the kind presumed, no job takes longer than its row prints
--   Waits     request 8/12: the wait that is printed and answered, what reads alpha and what does not, and what a larger alpha does
--   Groups    request 9/12: a group is one resource, without groups all is as before, and what else groups change and do not
--   Points    the paper's points marked P, two of them as request 3/12 has them, and the reports with request 6/12's rounds, request 8/12's column and request 9/12's groups
--   Words     what these are made of
pub mod Words
pub mod Refusals
pub mod Demand1
pub mod Demand2
pub mod NoEasier
pub mod NotEmpty
pub mod Decimals
pub mod Archives
pub mod Window
pub mod Salvages
pub mod Rounds
pub mod Reads
pub mod EachRead
pub mod Responds
pub mod Waits
pub mod Groups
pub mod Points
