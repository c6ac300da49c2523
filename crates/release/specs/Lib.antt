-- What holds of archives (request 2/12 of document 02).
--   Undo       writing and reading undo each other; one archive for one table; a changed byte is noticed
--   Refusals   when an archive is refused, and with what, said a second way
--   Cases      blocks, computed
pub mod Undo
pub mod Refusals
pub mod Cases
