-- The check of RFC 1071.
--   Sum     the check of any bytes
--   Cases   bytes and the check of each, computed
pub mod Sum
pub mod Cases
