-- `listing::read_lines` meets its contract. The loop's invariant: what is left, read from this line on with the table and the past so far, is
-- read as the whole listing is; no more lines are passed than bytes; and the past is within its bounds. Assumes nothing.
use lib.ListN.{length}
use Rattle.listing.proofs.ReadLaws.{Left}
use Rattle.listing.proofs.read_lines.Given as goal

abbrev pub invariant-loop-end : goal.invariant-loop-end
invariant-loop-end l = Left l.listing l.table l.past l.number l.rest

abbrev pub decreases-loop-end : goal.decreases-loop-end
decreases-loop-end l = length l.rest
