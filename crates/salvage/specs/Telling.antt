-- Request 5/12 of document 02: "it lists each input block". What the program `salvage` tells of a card: a line for each block, as `3 moved`, and after them, where the card is refused, its line, as `refused 14 place 0`. The list and the output that it lends have room for every card, so 11 is not among these.
use Rattle.std.specs.Prelude.{ℕ, ◌+◌, ◌*◌, List, [], ◌++◌, length, eqb, Ok, Err}
use Rattle.basics.specs.Choice.{pick}
use Rattle.basics.specs.Over.{join_to}
use Rattle.basics.specs.Text.{bytes}
use Rattle.table.specs.Answers.{Written}
use Rattle.std.specs.Result.{result_unwrap_or}
use Rattle.put.specs.Text.{count_text}
use Rattle.refusal.specs.declared.Source.TheVariants.{Card}
use Rattle.refusal.specs.Refusal.{refusal_text}
use Rattle.block.specs.Numbers.{byte_at}
use Rattle.block.specs.Block.{block_size}
use Rattle.salvaging.specs.declared.Fate.{Fate}
use Rattle.salvaging.specs.declared.Fate.TheVariants.{Bad, Doubled, Kept, Moved}
use Rattle.salvaging.specs.Fates.{code_of, fate_at}
use Rattle.salvaging.specs.Salvage.{max_blocks, blocks_of, salvage_answer}

-- the bytes of the longest card
abbrev pub max_card : ℕ
max_card = block_size * max_blocks

abbrev pub fate_word : Fate → List ℕ
fate_word Bad = bytes "bad"
fate_word Doubled = bytes "doubled"
fate_word Kept = bytes "kept"
fate_word Moved = bytes "moved"

-- by the code that the list has for it
abbrev pub code_word : ℕ → List ℕ
code_word code =
    pick (eqb code (code_of Bad)) (fate_word Bad) (
    pick (eqb code (code_of Doubled)) (fate_word Doubled) (
    pick (eqb code (code_of Kept)) (fate_word Kept)
    (fate_word Moved)))

-- a line: the position, counted from 1, and the word
unfoldable pub word_line : ℕ → List ℕ → List ℕ
word_line position word = count_text position ++ (bytes " " ++ (word ++ bytes "\n"))

-- block i + 1
abbrev pub fate_line : List ℕ → ℕ → List ℕ
fate_line s i = word_line (i + 1) (fate_word (fate_at s i))

-- by its code, in a list
abbrev pub code_line : List ℕ → ℕ → List ℕ
code_line list i = word_line (i + 1) (code_word (byte_at list i))

-- what an answer says: how many bytes were written, which is `unwrap_or(0)` of it, and the line of its refusal
abbrev pub wrote_length : Written → ℕ
wrote_length answer = result_unwrap_or answer 0

abbrev pub refused_by : Written → List ℕ
refused_by (Ok n) = []
refused_by (Err r) = refusal_text Card r

-- the list, unless 15 is given, and the refusal
unfoldable pub told_text : List ℕ → List ℕ
told_text s = join_to (blocks_of (length s)) (fate_line s) ++ refused_by (salvage_answer s max_blocks max_card)

-- the most bytes that are told: 64 lines of at most 19 each, and a refusal's line
abbrev pub max_told : ℕ
max_told = max_blocks * 19 + 56
