--   SlotLaws     a pair is added at the slot of its resource
--   ReadLaws     what `merge` answers: what is said against the table, and of a fine one its merged pairs
--   Determined   two answers are equal
pub mod SlotLaws
pub mod ReadLaws
pub mod Determined
