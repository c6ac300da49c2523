-- Laws of the writer.
--   LineLaws      a line, field by field
--   WriteLaws     texts one after the other, and how long the lines are
--   LongestText   how long a text can be
--   Determined    two answers are equal
pub mod LineLaws
pub mod WriteLaws
pub mod LongestText
pub mod Determined
