-- What the program `unarchive` writes.
--   Unarchiving   an archive's bytes to a listing's
pub mod Unarchiving
