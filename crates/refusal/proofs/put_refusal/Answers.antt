-- `refusal::put_refusal` meets its contract: the source decides the word. Assumes nothing.
use Rattle.refusal.proofs.put_refusal.Goals as goal

pub returns-in-Listing : goal.returns-in-Listing
returns-in-Listing c =
    rw c.in-Listing.is c.put_with.ensures

pub returns-in-Card : goal.returns-in-Card
returns-in-Card c =
    rw c.in-Card.is c.put_with-in-Card.ensures
