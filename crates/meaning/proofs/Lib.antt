--   SplitLaws     a text by its first line, and the line of a word and fields
--   SaysLaws      a line of words, with figures that obey the rules, says them
--   PutRows       a row, stored entry by entry, and entries that hold a row
--   PairRows      the pairs of a task, stored use by use
--   GroupRows     the groups, stored line by line
--   TableLaws     the tasks and the table, stored line by line
--   AlphaLaws     the alphas of good figures, as the table holds them
--   FigureLaws    good figures make an accepted table
--   StatesRead    lines that state figures are read to their end
--   ReadStates    of every text after a task a first part states figures
--   HeadStates    and of every text after `cpus`
--   UpTo          how far a listing states figures, and what is read of it up to there
--   Meaning       correct, complete, passes_check
--   OneReading    unambiguous
--   Sides         each figure of an accepted listing's table lies on its side of what was typed
--   Refused       a refused reading has no table: where one is asked for, the empty one
--   ListingRefusals   refused_as_called
--   FieldBack     the text of a number states it, and is read back
--   TextGroups    the group lines of an accepted table's text state its groups
--   TextFigures   the text of an accepted table states its figures
--   Back          text_fits, reads_back, rewrites, same_text
pub mod SplitLaws
pub mod SaysLaws
pub mod PutRows
pub mod PairRows
pub mod GroupRows
pub mod TableLaws
pub mod AlphaLaws
pub mod FigureLaws
pub mod StatesRead
pub mod ReadStates
pub mod HeadStates
pub mod UpTo
pub mod Meaning
pub mod OneReading
pub mod Sides
pub mod Refused
pub mod ListingRefusals
pub mod FieldBack
pub mod TextGroups
pub mod TextFigures
pub mod Back
