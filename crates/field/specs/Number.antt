-- Number fields of a listing (document 01, "The listing"; times with up to six decimals: document 02, 1/12).
-- A field is read at the start of s, a part of the line that runs on past the field. It ends at a space, an LF or the end.
use Rattle.std.specs.Prelude.{ℕ, ◌+◌, ◌-◌, ◌*◌, ◌/◌, Bool, true, false, ◌&&◌, ◌||◌, List, [], ◌∷◌, ◌++◌, length, take, drop, eqb, Option, Some, None}
use Rattle.basics.specs.Choice.{pick, within}
use Rattle.field.specs.declared.Field.{Field}
use Rattle.field.specs.declared.Rounding.{Rounding}
use Rattle.field.specs.declared.Rounding.TheVariants.{Down, Up}

-- a field that reads as the number v and is w bytes wide; a badly formed one reads as `None`
abbrev pub reads_as : ℕ → ℕ → Option Field
reads_as v w = Some (record { value = v; width = w })

-- '0' to '9'
abbrev pub is_digit : ℕ → Bool
is_digit b = within 48 57 b

-- the digits that s starts with
abbrev pub digits : List ℕ → List ℕ
digits [] = []
digits (b ∷ s) = pick (is_digit b) (b ∷ digits s) []

-- the decimal number that digits make, written on after the number a
abbrev pub number : ℕ → List ℕ → ℕ
number a [] = a
number a (d ∷ ds) = number (a * 10 + (d - 48)) ds

-- what parts two fields: a space, or the LF that ends the line
abbrev pub apart : ℕ → Bool
apart b = eqb b 32 || eqb b 10

-- the field that s starts with
abbrev pub first : List ℕ → List ℕ
first [] = []
first (b ∷ s) = pick (apart b) [] (b ∷ first s)

-- a field ends here
abbrev pub ends : List ℕ → Bool
ends [] = true
ends (b ∷ s) = apart b

-- a point stands here
abbrev pub point : List ℕ → Bool
point [] = false
point (b ∷ s) = eqb b 46

-- a fraction, padded on the right with '0' to six digits
abbrev pub padded : List ℕ → List ℕ
padded f = take 6 (f ++ (48 ∷ 48 ∷ 48 ∷ 48 ∷ 48 ∷ 48 ∷ []))

-- v milliseconds and the fraction f, in nanoseconds: 2 and "5" are 2 and "500000", 2,500,000
abbrev pub nanos : ℕ → List ℕ → ℕ
nanos v f = number v (padded f)

-- nanoseconds "rounded up to the microsecond" or "rounded down"
unfoldable pub rounded : Rounding → ℕ → ℕ
rounded Down ns = ns / 1000
rounded Up ns = (ns + 999) / 1000

-- one to six digits, after the point of a time of v whole milliseconds; they begin at the place `at` of the field
unfoldable pub fraction : Rounding → ℕ → ℕ → List ℕ → Option Field
fraction way v at s =
    let f = digits s in
    pick (within 1 6 (length f) && ends (drop (length f) s)) (reads_as (rounded way (nanos v f)) (at + length f)) None

-- a time: one to five digits, then optionally a point and one to six digits
unfoldable pub time_field : Rounding → List ℕ → Option Field
time_field way s =
    let w = digits s in
    let v = number 0 w in
    let n = length w in
    pick (within 1 5 n)
    (pick (ends (drop n s)) (reads_as (rounded way (nanos v [])) n)
    (pick (point (drop n s)) (fraction way v (n + 1) (drop (n + 1) s)) None))
    None

-- a count: one to four digits
unfoldable pub count_field : List ℕ → Option Field
count_field s =
    let w = digits s in
    pick (within 1 4 (length w) && ends (drop (length w) s)) (reads_as (number 0 w) (length w)) None
