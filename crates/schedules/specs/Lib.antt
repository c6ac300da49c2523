-- Theorem 1 of the report, over schedules. What a reader must believe is Jobs, Schedule and Theorem; and Wrong, for what Theorem says beside the theorem itself.
--   Jobs      section II-A: what the jobs of the tasks do
--   Schedule  sections II-A and III-A: what a kernel does under global fixed priorities with priority inheritance; III-B: response times
--   Theorem   section III-B: no job takes longer than its task's bound
--   Wrong     kernels of other kinds and smaller demands, of which it does not hold
--   Picture   runs drawn as text
--   Shown     a run without end, over a table in which every task has a bound
--   Broken    runs in which a job takes longer: for each fact one in which it alone is broken, and for each other kernel
--   Small     and for each smaller demand, no fact being broken
pub mod Jobs
pub mod Schedule
pub mod Wrong
pub mod Theorem
pub mod Picture
pub mod Shown
pub mod Broken
pub mod Small
