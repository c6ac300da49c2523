-- The laws of schedules, from an instant to the theorem, and what shows that it is not said of nothing and needs what it asks for.
--   FactLaws         Obeys, obeys: the facts of a run by name; WaitsFor, waits_for_lem
--   ProgressLaws     what a task has run of each job: ran, ran_most; unit_below, job_rises, job_most, stay, moved
--   TallyLaws        counting: count_into, by the lock (count_among), by rank (rank_low, rank_mid, rank_high)
--   LoadLaws         what a task runs in a window of a run is at most its workload: load
--   LentLaws         who lends a task its priority: lent
--   InstantLaws      why a job that is there does not run: why; at most i run above i: above_most
--   RequestLaws      one request of a job waits for one request below it: staged, found
--   BlockerLaws      for how long: request_most
--   BlockLaws        (6): DB_most
--   UnitLaws         the units of a job, as S, O, F and L count them
--   TermLaws         (7) to (10): S_most, O_most, F_most, L_most
--   AboveLaws        who runs above i runs a unit of S, O, F or L: runs_all
--   KindLaws         (11): each instant is of one kind: kinds, full_most
--   MeetLaws         by induction over the instants: in_time
--   TimesLaws        the terms in k-ths of the time unit
--   FinerLaws        whole_unit, constrained_finer, closed_finer, covers_finer
--   FactsByTest, GeneratedByTest, CoveredByTest, RunsByTest   what a drawn run is held to, by tests that compute
--   RefuteLaws       a drawn run in which a job takes longer: refuted
--   NeededHolds      needed_holds, kernels_holds, terms_holds, all_read_holds
--   TheoremHolds     theorem1_holds
--   AlikeLaws        two instants that are alike: fact_alike
--   RepeatLaws       a run that repeats: repeats
--   LeastByTest      least_by_test, none_by_test
--   ShownHolds       shown_holds
--   MissHolds        miss_holds
pub mod FactLaws
pub mod ProgressLaws
pub mod TallyLaws
pub mod LoadLaws
pub mod LentLaws
pub mod InstantLaws
pub mod RequestLaws
pub mod BlockerLaws
pub mod BlockLaws
pub mod UnitLaws
pub mod TermLaws
pub mod AboveLaws
pub mod KindLaws
pub mod MeetLaws
pub mod TimesLaws
pub mod FinerLaws
pub mod FactsByTest
pub mod GeneratedByTest
pub mod CoveredByTest
pub mod RunsByTest
pub mod RefuteLaws
pub mod NeededHolds
pub mod TheoremHolds
pub mod AlikeLaws
pub mod RepeatLaws
pub mod LeastByTest
pub mod ShownHolds
pub mod MissHolds
