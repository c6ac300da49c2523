-- A card with bad blocks (request 5/12 of document 02).
--   Fates     what becomes of each block, and the list that says it
--   Salvage   which blocks are left, whether they make an archive, and what is answered and written
pub mod Fates
pub mod Salvage
