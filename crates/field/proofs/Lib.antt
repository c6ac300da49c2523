-- Laws of number fields.
--   DigitLaws     digits, runs of digits, and numbers
--   RoundingLaws  rounding to the microsecond
--   FoundLaws     a count, a fraction and a time, by what the code finds on the way
--   FirstField    the field that a text starts with reads as the text does
--   ReadAs        what a field is that reads as a number, and its width
--   Spelled       a field reads as a number exactly if it states it
--   OneNumber     a text states one number only
--   AsBefore      at most three decimals read as document 01 has them; more than six are badly formed
--   CasesHold     the cases, computed
--   Determined    two answers are equal
pub mod DigitLaws
pub mod RoundingLaws
pub mod FoundLaws
pub mod FirstField
pub mod ReadAs
pub mod Spelled
pub mod OneNumber
pub mod AsBefore
pub mod CasesHold
pub mod Determined
