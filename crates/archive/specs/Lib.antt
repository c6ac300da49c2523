-- What the program `archive` writes.
--   Archiving   a listing's bytes to an archive's
pub mod Archiving
