-- One block of an archive (request 2/12 of document 02).
--   Numbers   a number in bytes, the highest first, and the number at a place
--   Block     the bytes of a block; what is wrong with one, and what one says
pub mod Numbers
pub mod Block
