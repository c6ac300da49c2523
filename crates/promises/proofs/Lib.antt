--   RefusalsHold                                                                                                                                                        a refusal is given exactly when it is called for
--   Demand1Holds, Demand2Holds, NoEasierHolds, NotEmptyHolds, DecimalsHold, ArchivesHold, PointsHold, WindowHolds, SalvagesHold, RoundsHold, EachReadHolds, ReadsHold, RespondsHold, WaitsHold, GroupsHold   each promise, by citing the crate or the file that did the work
--   NoEasierLaws                                                                                                                                                        the one result, over what the analysis reads of two tables
--   ReadsLaws, SameReadLaws, ReachedLaws, OnlyRunLaws                                                                                                                                what a verdict reads: of which tasks; the demand is the same where two tables agree on it, and where one run time alone differs
--   MergedLaws                                                                                                                                                          what the merged pairs of an accepted table hold; that the numbers of groups are not read; no easier as typed, so no easier merged
--   AlphaLaws                                                                                                                                                           what does not read alpha, and what a wait reads
--   ComparedByTest, AgreeByTest, UnchangedByTest                                                                                                                        two tables compared, and held to what a verdict reads, each by one test that computes
--   ReportLaws, ThreeTasks                                                                                                                                              the report on an accepted listing, and on three tasks
pub mod RefusalsHold
pub mod Demand1Holds
pub mod Demand2Holds
pub mod ComparedByTest
pub mod NotEmptyHolds
pub mod NoEasierLaws
pub mod NoEasierHolds
pub mod DecimalsHold
pub mod ArchivesHold
pub mod ReportLaws
pub mod ThreeTasks
pub mod PointsHold
pub mod WindowHolds
pub mod SalvagesHold
pub mod RoundsHold
pub mod MergedLaws
pub mod ReadsLaws
pub mod SameReadLaws
pub mod ReachedLaws
pub mod OnlyRunLaws
pub mod AgreeByTest
pub mod UnchangedByTest
pub mod EachReadHolds
pub mod ReadsHold
pub mod RespondsHold
pub mod AlphaLaws
pub mod WaitsHold
pub mod GroupsHold
