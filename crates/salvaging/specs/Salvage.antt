-- Request 5/12 of document 02: the archive that is made of the blocks left, and the refusals in their order.
use Rattle.std.specs.Prelude.{ℕ, ◌+◌, ◌/◌, ◌%◌, ◌<◌, Bool, true, ◌&&◌, List, length, leb, ltb, eqb}
use Rattle.basics.specs.Choice.{pick, within}
use Rattle.basics.specs.Over.{count_to, all_to, first_to, join_to}
use Rattle.table.specs.declared.Fault.TheVariants.{TooShort, Mismatch, BadCard}
use Rattle.table.specs.Faults.{Checked}
use Rattle.std.specs.Prelude.{Ok, Err}
use Rattle.table.specs.Answers.{Written}
use Rattle.table.specs.Faults.{◌then◌, unless}
use Rattle.table.specs.Rules.{table_fault}
use Rattle.table.specs.Answers.{or_wrote, or_text}
use Rattle.block.specs.declared.Head.{Head}
use Rattle.block.specs.Numbers.{byte_at}
use Rattle.block.specs.Block.{block_size, head_in}
use Rattle.card.specs.Archive.{block_at, table_in}
use Rattle.salvaging.specs.declared.Fate.TheVariants.{Kept}
use Rattle.salvaging.specs.Fates.{code_of, number_on, codes_of}

-- "reads up to 64 blocks"; the function `most` ties this to the constant of the code
abbrev pub max_blocks : ℕ
max_blocks = 64

-- ---- the blocks left of an input s, by the list of them: those that are neither bad nor doubled

-- block i + 1 is kept or moved
abbrev pub left_at : List ℕ → ℕ → Bool
left_at list i = leb (code_of Kept) (byte_at list i)

-- how many are left
unfoldable pub left_in : List ℕ → ℕ
left_in list = count_to (length list) (left_at list)

-- the first of them, and what it says: the others are to agree with it
unfoldable pub first_left : List ℕ → ℕ
first_left list = first_to (length list) (left_at list)

abbrev pub head_left : List ℕ → List ℕ → Head
head_left s list = head_in (block_at s (first_left list))

-- "agree on processors and n, and their numbers are 1 to n"
unfoldable pub joins : Head → Head → Bool
joins first h = eqb h.cpus first.cpus && eqb h.n first.n && within 1 first.n h.number

-- "all left" do
abbrev pub may_join : List ℕ → List ℕ → Head → ℕ → Bool
may_join s list first i = pick (left_at list i) (joins first (head_in (block_at s i))) true

unfoldable pub all_join : List ℕ → List ℕ → Head → Bool
all_join s list first = all_to (length list) (may_join s list first)

-- block i + 1 is left and has this number
abbrev pub left_with : List ℕ → List ℕ → ℕ → ℕ → Bool
left_with s list number i = left_at list i && eqb (number_on s i) number

-- how many of them have it
unfoldable pub how_many : List ℕ → List ℕ → ℕ → ℕ
how_many s list number = count_to (length list) (left_with s list number)

-- "each once"
unfoldable pub each_once : List ℕ → List ℕ → ℕ → Bool
each_once s list n = all_to n (λ p. eqb (how_many s list (p + 1)) 1)

-- "at least one block is left, all left agree on processors and n, and their numbers are 1 to n, each once"
unfoldable pub is_complete : List ℕ → List ℕ → Bool
is_complete s list = ltb 0 (left_in list) && all_join s list (head_left s list) && each_once s list (head_left s list).n

-- where the one with a number is
unfoldable pub place_of : List ℕ → List ℕ → ℕ → ℕ
place_of s list number = first_to (length list) (left_with s list number)

-- the numbers 1 to n are all there
abbrev pub Placed : List ℕ → List ℕ → ℕ → Type 0
Placed s list n = (p : ℕ) → p < n → place_of s list (p + 1) < length list

-- "orders them by task number"
unfoldable pub in_order : List ℕ → List ℕ → ℕ → List ℕ
in_order s list n = join_to n (λ p. block_at s (place_of s list (p + 1)))

-- ---- the refusals

-- 15 is "input not a whole number of blocks from 1 to 64"
unfoldable pub is_card : ℕ → Bool
is_card l = eqb (l % block_size) 0 && within 1 max_blocks (l / block_size)

-- the blocks of an input of l bytes; none if 15 is given
unfoldable pub blocks_of : ℕ → ℕ
blocks_of l = pick (is_card l) (l / block_size) 0

-- 11 is "list or output with less room than the input has blocks": an input of l bytes, a list of so many entries, an output of so many bytes
unfoldable pub has_room : ℕ → ℕ → ℕ → Bool
has_room l entries room = leb (l / block_size) entries && leb l room

unfoldable pub room_fault : ℕ → ℕ → ℕ → Checked
room_fault l entries room =
    unless (is_card l) BadCard 0 then
    unless (has_room l entries room) TooShort 0

-- "14, no complete archive; then the table's own". Of more than 32 blocks left the table's own is 8
unfoldable pub left_fault : List ℕ → List ℕ → Checked
left_fault s list =
    unless (is_complete s list) Mismatch 0 then
    table_fault (table_in (in_order s list (left_in list)))

-- all of them, in their order
unfoldable pub salvage_fault : List ℕ → ℕ → ℕ → Checked
salvage_fault s entries room =
    room_fault (length s) entries room then
    left_fault s (codes_of s)

-- ---- what is answered, and what is lent afterwards

-- so many where nothing is refused, else none
abbrev pub if_fine : Checked → ℕ → ℕ
if_fine (Ok _) n = n
if_fine (Err r) n = 0

-- the archive that an input is mended to
unfoldable pub mended : List ℕ → List ℕ
mended s = in_order s (codes_of s) (left_in (codes_of s))

unfoldable pub salvage_answer : List ℕ → ℕ → ℕ → Written
salvage_answer s entries room = or_wrote (salvage_fault s entries room) (length (mended s))

-- "Unless 15 or 11 is given it lists each input block"; entries past the last block are unchanged
unfoldable pub listed : List ℕ → List ℕ → ℕ → List ℕ
listed s list room = or_text (room_fault (length s) (length list) room) (codes_of s) list

unfoldable pub salvaged : List ℕ → ℕ → List ℕ → List ℕ
salvaged s entries out = or_text (salvage_fault s entries (length out)) (mended s) out
