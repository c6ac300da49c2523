-- Request 5/12 holds.
-- Assumes nothing.
use Rattle.recovery.proofs.Readable.{readable, nothing_invented}
use Rattle.recovery.proofs.Recovered.{returned_as_it_is, given_back}
use Rattle.promises.specs.Salvages.{Salvages}

pub salvages_hold : Salvages
salvages_hold = record { readable = readable; nothing_invented = nothing_invented; returned_as_it_is = returned_as_it_is; given_back = given_back }
