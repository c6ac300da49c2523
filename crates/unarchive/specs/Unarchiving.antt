-- What the program `unarchive` makes of an archive: the archive's refusal, or the listing of its table. There is always room for it, so 11 is not among them.
use Rattle.std.specs.Prelude.{List, ℕ, length}
use Rattle.table.specs.Answers.{Written, answer_of, table_from, or_wrote, or_text}
use Rattle.writing.specs.Write.{text_of}
use Rattle.card.specs.Archive.{read_archive}

unfoldable pub from_card : List ℕ → Written
from_card a = or_wrote (answer_of (read_archive a)) (length (text_of (table_from (read_archive a))))

-- the output, once the listing stands at its start
unfoldable pub with_listing : List ℕ → List ℕ → List ℕ
with_listing a out = or_text (answer_of (read_archive a)) (text_of (table_from (read_archive a))) out
