-- Document 01, "The report program": "Refused, it prints one line, as `refused 9 line 2`: the number, then the place." A card has no lines: of one it is `refused 13 place 2`.
use Rattle.std.specs.Prelude.{ℕ, List, ◌++◌}
use Rattle.basics.specs.Text.{bytes}
use Rattle.table.specs.declared.Refusal.{Refusal}
use Rattle.table.specs.Faults.{number_of}
use Rattle.put.specs.Text.{count_text}
use Rattle.refusal.specs.declared.Source.{Source}
use Rattle.refusal.specs.declared.Source.TheVariants.{Listing, Card}

-- the word for the place
abbrev pub place_word : Source → List ℕ
place_word Listing = bytes " line "
place_word Card = bytes " place "

-- the line with this word
unfoldable pub refusal_with : List ℕ → Refusal → List ℕ
refusal_with word r = bytes "refused " ++ (count_text (number_of r.fault) ++ (word ++ (count_text r.place ++ bytes "\n")))

abbrev pub refusal_text : Source → Refusal → List ℕ
refusal_text source r = refusal_with (place_word source) r
