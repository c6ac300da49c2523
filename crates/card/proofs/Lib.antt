-- Laws of the archive's reader and writer.
--   ArchiveLaws   a block of an archive as it is handed on, the table that is filled from them, the blocks that are put, a length of whole blocks
--   WalkLaws      a walk over the blocks of an archive
--   ReadLaws      what the reader's answer says of an archive
--   Determined    two answers are equal
pub mod ArchiveLaws
pub mod WalkLaws
pub mod ReadLaws
pub mod Determined
