-- Laws of what `salvage` tells.
--   TellingLaws   how long the lines are, and that those of the list are those of the blocks
pub mod TellingLaws
