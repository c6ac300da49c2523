-- What the program `salvage` writes.
--   Telling   the lines that it tells on standard error
pub mod Telling
