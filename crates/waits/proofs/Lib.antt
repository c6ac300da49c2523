--   CasesHold     the computed cases
--   KeptLaws      numbers kept one after the other; PlacingLaws: the pass that puts one in its place
--   KeyLaws       the requests of a task as numbers
--   OthersLaws    those for another resource than one; SummingLaws: the pass that sums the first of them
--   LowerLaws     the requests of the tasks below one
--   WaitLaws      what the pass over the tasks has: those kept, and the waits
--   AnswerLaws    the waits by the merged pairs, of a table without alpha, and of a task that can be asked about
--   Determined    two answers are equal
pub mod CasesHold
pub mod KeptLaws
pub mod PlacingLaws
pub mod KeyLaws
pub mod OthersLaws
pub mod SummingLaws
pub mod LowerLaws
pub mod WaitLaws
pub mod AnswerLaws
pub mod Determined
