-- A table to an archive and back (request 2/12 of document 02).
--   Archive   the archive of a table; what an archive is refused with, and what it says
pub mod Archive
