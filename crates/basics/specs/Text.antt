-- A text as its bytes, so that a definition can show the listing that it speaks of; a text put into an output; and a line.
use Rattle.std.specs.Prelude.{ℕ, List, [], ◌∷◌, ◌++◌, length, drop, leb}
use Prim.Native.Char.{code}
use Prim.Native.String.{String, [] as empty, ◌∷◌ as ◌before◌}
use Rattle.basics.specs.Choice.{pick}

-- each of the text's characters is one byte
abbrev pub bytes : String → List ℕ
bytes empty = []
bytes (c before s) = code c ∷ bytes s

-- an output that holds `out`, once a text is put at its start: past the text it is as it was, and where it is too short all of it is
abbrev pub put_into : List ℕ → List ℕ → List ℕ
put_into text out = pick (leb (length text) (length out)) (text ++ drop (length text) out) out

-- ---- lines: "Lines end in LF; fields are parted by exactly one space"

-- fields, each after exactly one space, and the LF
abbrev pub ending : List (List ℕ) → List ℕ
ending [] = 10 ∷ []
ending (w ∷ ws) = 32 ∷ (w ++ ending ws)

-- a line of a word and fields
abbrev pub line_of : String → List (List ℕ) → List ℕ
line_of word ws = bytes word ++ ending ws
