--   ShareLaws     the shares of a table as relations
--   CeilingLaws   the ceilings that the pass keeps; PeakLaws: the longest requests that it keeps
--   PassShares    the shares that the passes make
--   SoundLaws     the shares of an accepted table are sound; Reduce: their demand is the table's
--   Determined    two answers are equal
pub mod ShareLaws
pub mod CeilingLaws
pub mod PeakLaws
pub mod PassShares
pub mod SoundLaws
pub mod Reduce
pub mod Determined
