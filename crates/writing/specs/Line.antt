-- A line, by its word and its fields.
use Rattle.std.specs.Prelude.{ℕ, List, [], ◌++◌, map, Option, Some, None}
use Rattle.basics.specs.Text.{ending}
use Rattle.put.specs.Text.{count_text, time_text}
use Rattle.writing.specs.declared.text.Field.{Field}
use Rattle.writing.specs.declared.text.Field.TheVariants.{Count, Time}

abbrev pub field_text : Field → List ℕ
field_text (Count n) = count_text n
field_text (Time us) = time_text us

-- the word, each field after a space, and the LF
abbrev pub line_text : List ℕ → List Field → List ℕ
line_text word fields = word ++ ending (map field_text fields)

-- of a line that may be none
abbrev pub optional_text : List ℕ → Option (List Field) → List ℕ
optional_text word (Some fields) = line_text word fields
optional_text word None = []
