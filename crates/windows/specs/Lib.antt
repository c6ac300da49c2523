-- What the jobs of one task run in a window: the workload of the report's section III-B bounds it.
--   Sporadic  the jobs of a task, what they run, and the law
pub mod Sporadic
