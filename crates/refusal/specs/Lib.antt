-- The line that tells a refusal.
--   Refusal   its text
pub mod Refusal
