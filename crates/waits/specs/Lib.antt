-- Request 8/12: how long a task may wait under P-PCP for what lower tasks hold.
--   Wait     the report's equations 13 and 14, over a view of a table
--   Answers  what is answered of one task of a table, and of all
--   Cases    the point of the request, and waits that tell what is counted from what is not
-- and, cited by the contracts of private functions alone, so that no reader has to believe it:
--   Kept     the longest requests of the tasks gone through
pub mod Wait
pub mod Answers
pub mod Cases
pub mod Kept
