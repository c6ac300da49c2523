-- A time as document 01 has it, "one to five digits, then optionally a point and one to three digits", read to the microsecond: what request 1/12 of document 02
-- means by 'as before'. Nothing is read by it any more; the promise that fields with at most three decimals read as before speaks of it.
use Rattle.std.specs.Prelude.{ℕ, ◌+◌, ◌&&◌, List, [], ◌∷◌, ◌++◌, length, take, drop, eqb, Option, None}
use Rattle.basics.specs.Choice.{pick, within}
use Rattle.field.specs.declared.Field.{Field}
use Rattle.field.specs.Number.{reads_as, digits, number, ends, point}

-- v milliseconds and the fraction f, padded on the right with '0' to three digits, in microseconds
abbrev pub short_micros : ℕ → List ℕ → ℕ
short_micros v f = number v (take 3 (f ++ (48 ∷ 48 ∷ 48 ∷ [])))

unfoldable pub short_fraction : ℕ → ℕ → List ℕ → Option Field
short_fraction v at s =
    let f = digits s in
    pick (within 1 3 (length f) && ends (drop (length f) s)) (reads_as (short_micros v f) (at + length f)) None

unfoldable pub short_time : List ℕ → Option Field
short_time s =
    let w = digits s in
    let v = number 0 w in
    let n = length w in
    pick (within 1 5 n)
    (pick (ends (drop n s)) (reads_as (short_micros v []) n)
    (pick (point (drop n s)) (short_fraction v (n + 1) (drop (n + 1) s)) None))
    None

-- how many bytes a field has after its point
abbrev pub decimals : List ℕ → ℕ
decimals [] = 0
decimals (b ∷ w) = pick (eqb b 46) (length w) (decimals w)
