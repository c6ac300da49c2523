--   SoundLaws    shares are sound exactly if the test of them holds
--   QuotLaws     a product for the quotient
--   PackLaws     the shares that count, in front
--   RoundLaws    a round, and the rounds
--   StrideLaws   how workloads go on from a length, and rounds that climb alike
--   Determined   two answers are equal
pub mod SoundLaws
pub mod QuotLaws
pub mod PackLaws
pub mod RoundLaws
pub mod StrideLaws
pub mod Determined
