-- The rounds over the shares of one task.
--   Shares    what the analysis of one task reads of a table, and the demand over it
--   Outcome   when the shares are sound, and what `outcome_of` answers
-- and, cited by the contracts of private functions alone, so that no reader has to believe it:
--   Part      what each part keeps, and the quotient by a product
--   Parts     the shares that count, packed, and what a round works out of them
--   Strides   how their workloads go on, and rounds that climb alike
pub mod Shares
pub mod Outcome
pub mod Part
pub mod Parts
pub mod Strides
