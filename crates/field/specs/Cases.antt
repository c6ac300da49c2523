-- The paper's fields, those of request 1/12 and some more, and what each reads as: one list, one statement over it, computed.
use Rattle.std.specs.Prelude.{ℕ, ◌≡◌, List, [], ◌∷◌, ◌++◌, map, Option, None}
use Prim.Native.String.{String}
use Rattle.basics.specs.Text.{bytes}
use Rattle.field.specs.declared.Field.{Field}
use Rattle.field.specs.declared.Rounding.TheVariants.{Down, Up}
use Rattle.field.specs.Number.{reads_as, time_field, count_field}
use Rattle.field.specs.ThreeDecimals.{short_time}

pub record Case : Type 0 where
  pub text : String
  pub answer : Option Field

abbrev case : String → Option Field → Case
case t f = record { text = t; answer = f }

-- ---- read alike whichever way is told, and as document 01 has it

-- the fields that the paper marks P
unfoldable pub marked : List Case
marked =
    case "2.5" (reads_as 2_500 3)
    ∷ case "2.05" (reads_as 2_050 4)
    ∷ case "2.500" (reads_as 2_500 5)
    ∷ []

unfoldable pub times : List Case
times =
    case "2.005" (reads_as 2_005 5)
    ∷ case "62.5" (reads_as 62_500 4)
    ∷ case "10000" (reads_as 10_000_000 5)
    -- out of range, which is not for the field to say
    ∷ case "10000.001" (reads_as 10_000_001 9)
    ∷ case "0" (reads_as 0 1)
    ∷ case "99999.999" (reads_as 99_999_999 9)
    -- leading and trailing zeros
    ∷ case "002.50" (reads_as 2_500 6)
    ∷ case "00000.000" (reads_as 0 9)
    -- the field ends at a space, an LF or the end
    ∷ case "2.5 4 5" (reads_as 2_500 3)
    ∷ case "20\n3" (reads_as 20_000 2)
    ∷ case "2." None
    ∷ case "2. 5" None
    ∷ case ".5" None
    ∷ case "100000" None
    ∷ case "" None
    ∷ case " 2" None
    ∷ case "2,5" None
    ∷ case "2.5x" None
    ∷ case "2.50x0" None
    ∷ case "2.5.5" None
    ∷ case "-2" None
    ∷ case "2\r\n" None
    ∷ case "2\t" None
    -- the bytes beside the digits
    ∷ case "2/" None
    ∷ case "2:" None
    ∷ []

-- ---- more than three decimals

-- badly formed by document 01
unfoldable pub before : List Case
before =
    case "2.5000" None
    ∷ case "2.000000" None
    ∷ []

-- by document 02, 1/12:

-- a period or deadline
unfoldable pub down : List Case
down =
    case "2.5000" (reads_as 2_500 6)
    ∷ case "2.5009" (reads_as 2_500 6)
    ∷ case "2.500999" (reads_as 2_500 8)
    ∷ case "2.501000" (reads_as 2_501 8)
    ∷ case "2.00050" (reads_as 2_000 7)
    ∷ case "0.0009" (reads_as 0 6)
    ∷ case "0.9995" (reads_as 999 6)
    ∷ case "10000.000999" (reads_as 10_000_000 12)
    ∷ case "99999.999999" (reads_as 99_999_999 12)
    ∷ []

-- a run time, longest request or total
unfoldable pub up : List Case
up =
    case "2.5000" (reads_as 2_500 6)
    ∷ case "2.5001" (reads_as 2_501 6)
    ∷ case "2.500001" (reads_as 2_501 8)
    ∷ case "2.501000" (reads_as 2_501 8)
    ∷ case "2.00050" (reads_as 2_001 7)
    ∷ case "0.000001" (reads_as 1 8)
    ∷ case "0.000000" (reads_as 0 8)
    -- the carry
    ∷ case "0.9995" (reads_as 1_000 6)
    ∷ case "10000.000001" (reads_as 10_000_001 12)
    ∷ case "99999.999999" (reads_as 100_000_000 12)
    ∷ []

-- badly formed, whichever way is told
unfoldable pub long : List Case
long =
    case "2.0000001" None
    ∷ case "2.5000000" None
    ∷ case "2.50000x" None
    ∷ case "100000.0001" None
    ∷ case "2.5000\r" None
    ∷ []

-- ---- counts

unfoldable pub counts : List Case
counts =
    case "2" (reads_as 2 1)
    ∷ case "0002" (reads_as 2 4)
    ∷ case "9999 1" (reads_as 9_999 4)
    ∷ case "0" (reads_as 0 1)
    ∷ case "00002" None
    ∷ case "2.0" None
    ∷ case "" None
    ∷ case "x" None
    ∷ []

abbrev reads : (List ℕ → Option Field) → List Case → Type 0
reads field cases = map (λ (c : Case). field (bytes c.text)) cases ≡ map (λ (c : Case). c.answer) cases

abbrev pub CasesHold : Type 0
CasesHold =
    reads (time_field Down) (marked ++ times)
    × reads (time_field Up) (marked ++ times)
    × reads short_time (marked ++ times ++ before)
    × reads (time_field Down) (down ++ long)
    × reads (time_field Up) (up ++ long)
    × reads count_field counts
