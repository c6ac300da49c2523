-- What holds of a card with bad blocks, proved.
--   CountLaws    of a list, whatever it is: how many blocks are left and where each is, if they are complete
--   LeftLaws     what becomes of a block, and which are left, as a test and as a fact
--   CardLaws     a card and the room for it, as tests and as facts; what it is that nothing is refused
--   Complete     the blocks left are complete, as a test and as a fact; the archive that is made of them
--   Readable     readable, nothing_invented
--   Recovered    given_back, returned_as_it_is
--   Called       a card with bad blocks is listed, put in order and refused as it calls for
--   Listed       after which refusals the list is written
--   CasesHold    the cards, computed
pub mod CountLaws
pub mod LeftLaws
pub mod CardLaws
pub mod Complete
pub mod Readable
pub mod Recovered
pub mod Called
pub mod Listed
pub mod CasesHold
