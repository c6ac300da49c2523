-- Request 5/12 of document 02: cards with bad blocks. When a card is refused, and with what, and what is then written, is in demand 1.
use Rattle.recovery.specs.Recovered.{Readable, NothingInvented, ReturnedAsItIs, GivenBack}

pub record Salvages : Type 0 where
  -- what is written is an archive that the reader accepts, with the table that its blocks state
  pub readable : Readable
  -- every block that is written is a block of the input: nothing is invented
  pub nothing_invented : NothingInvented
  -- a good archive is returned as it is, all kept
  pub returned_as_it_is : ReturnedAsItIs
  -- what the tool is for: an input of at most 64 blocks, each of them a block of an accepted archive or one that 13 would refuse, in which each block of the archive
  -- occurs at least once, in any order, with a list and an output long enough, gives back exactly that archive
  pub given_back : GivenBack
