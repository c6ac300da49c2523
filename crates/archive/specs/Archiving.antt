-- What the program `archive` makes of a listing: the listing's refusal, 20, or the archive of its table. There is always room for it, so 11 is not among them.
use Rattle.std.specs.Prelude.{ℕ, ◌*◌, not, List}
use Rattle.table.specs.declared.Fault.TheVariants.{HasGroup}
use Rattle.table.specs.Faults.{Checked, ◌then◌, unless}
use Rattle.table.specs.Answers.{Written, answer_of, table_from, or_wrote, or_text}
use Rattle.table.specs.Limits.{max_tasks}
use Rattle.table.specs.Rules.{has_group}
use Rattle.listing.specs.Read.{read_listing}
use Rattle.block.specs.Block.{block_size}
use Rattle.card.specs.Archive.{archive_of}

-- the longest archive
abbrev pub max_archive : ℕ
max_archive = block_size * max_tasks

-- request 9/12: "20, writing a table that has a group as a card archive of version 1, place 0"
unfoldable pub from_listing_fault : List ℕ → Checked
from_listing_fault s =
    answer_of (read_listing s) then
    unless (not (has_group (table_from (read_listing s)).groups)) HasGroup 0

unfoldable pub from_listing : List ℕ → Written
from_listing s = or_wrote (from_listing_fault s) (block_size * (table_from (read_listing s)).n)

-- the output, once the archive stands at its start
unfoldable pub with_archive : List ℕ → List ℕ → List ℕ
with_archive s out = or_text (from_listing_fault s) (archive_of (table_from (read_listing s))) out
