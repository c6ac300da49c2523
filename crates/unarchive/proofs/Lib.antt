-- Laws of what `unarchive` writes.
--   Fits   there is room for it
pub mod Fits
