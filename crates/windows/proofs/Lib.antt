-- The workload's lemma.
--   PeriodLaws   jobs_at, jobs_short, jobs_period, jobs_more; Portions, portions_sum
--   ServedLaws   hits, hits_window, hits_all, hits_after, hits_before; served_most
--   InWindowsHolds   in_windows
pub mod PeriodLaws
pub mod ServedLaws
pub mod InWindowsHolds
