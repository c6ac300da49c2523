-- Laws of what `archive` writes.
--   Fits   there is room for it
pub mod Fits
