-- What holds of archives, proved.
--   NumberBack   numbers that were put are read back, and numbers that were read are put back
--   GoodLaws     the tests of a block and of its place are the second way to say them
--   BlockIs      a good block is the block of what it says
--   BlockBack    a block that was written is good, and says what was written
--   Parts        an archive and its blocks; what an accepted archive is
--   Undo         reads_back, writes_again, same_archive, one_archive, passes_check
--   Changed      one byte changed changes the check
--   Noticed      an accepted archive with one byte changed is refused
--   Called       an archive is refused exactly as it calls for, and then gives no table
--   CasesHold    the cases, computed
pub mod NumberBack
pub mod GoodLaws
pub mod BlockIs
pub mod BlockBack
pub mod Parts
pub mod Undo
pub mod Changed
pub mod Noticed
pub mod Called
pub mod CasesHold
