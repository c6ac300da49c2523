-- Request 5/12 of document 02: "it lists each input block". Block i + 1 of the input s is `block_at s i`, as in an archive.
use Rattle.std.specs.Prelude.{ℕ, ◌+◌, Bool, ◌&&◌, not, List, length, ltb, eqb}
use Rattle.basics.specs.Choice.{pick}
use Rattle.basics.specs.Over.{all_to, first_to, row_to}
use Rattle.block.specs.Numbers.{byte_at}
use Rattle.block.specs.Block.{good_block, head_in}
use Rattle.card.specs.Archive.{block_at, blocks_in}
use Rattle.salvaging.specs.declared.Fate.{Fate}
use Rattle.salvaging.specs.declared.Fate.TheVariants.{Bad, Doubled, Kept, Moved}

-- the number of each case, as the list has it
abbrev pub code_of : Fate → ℕ
code_of Bad = 0
code_of Doubled = 1
code_of Kept = 2
code_of Moved = 3

-- "those that 13 would not refuse"
abbrev pub good_at : List ℕ → ℕ → Bool
good_at s i = good_block (block_at s i)

-- the task number that a block says
abbrev pub number_on : List ℕ → ℕ → ℕ
number_on s i = (head_in (block_at s i)).number

-- "equals .. byte for byte"
unfoldable pub same_bytes : List ℕ → List ℕ → Bool
same_bytes a b = eqb (length a) (length b) && all_to (length a) (λ k. eqb (byte_at a k) (byte_at b k))

-- it "equals an earlier good block byte for byte": the first one that it equals is before it
unfoldable pub is_doubled : List ℕ → ℕ → Bool
is_doubled s i = ltb (first_to i (λ j. good_at s j && same_bytes (block_at s j) (block_at s i))) i

-- "bad if 13 would refuse it, doubled if it equals an earlier good block byte for byte, kept if its number is its position, and moved otherwise"
unfoldable pub fate_at : List ℕ → ℕ → Fate
fate_at s i =
    pick (not (good_at s i)) Bad (
    pick (is_doubled s i) Doubled (
    pick (eqb (number_on s i) (i + 1)) Kept
    Moved))

-- the list's entry for it
abbrev pub code_at : List ℕ → ℕ → ℕ
code_at s i = code_of (fate_at s i)

-- and the list: one entry for each input block
unfoldable pub codes_of : List ℕ → List ℕ
codes_of s = row_to (blocks_in s) (code_at s)
