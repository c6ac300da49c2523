-- What holds of a card with bad blocks (request 5/12 of document 02).
--   Refusals    what becomes of a block, when the blocks left are complete, and what is refused, said a second way
--   Recovered   what is written is an archive, nothing is invented, and a spoiled card gives its archive back
--   Cases       cards, computed
pub mod Refusals
pub mod Recovered
pub mod Cases
