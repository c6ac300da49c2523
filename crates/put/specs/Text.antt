-- What the writers write (document 01, "The listing"): "no leading zeros in the whole part (one `0` if it is zero), no trailing zeros in
-- the fraction, and no point if the fraction is zero".
use Rattle.std.specs.Prelude.{ℕ, zero, suc, ◌/◌, ◌%◌, ◌^◌, ◌+◌, List, [], ◌∷◌, ◌++◌, length, take, drop, ltb, leb, eqb, Option, Some, None, unwrap_or}
use Rattle.basics.specs.Choice.{pick}
use Rattle.basics.specs.Over.{first_to}

-- the last k decimal digits of n
abbrev pub digits_of : ℕ → ℕ → List ℕ
digits_of zero n = []
digits_of (suc k) n = digits_of k (n / 10) ++ ((48 + n % 10) ∷ [])

-- how many digits n has, 0 having one: the least k from 1 on with n below 10 ^ k; no number here has more than twenty
unfoldable pub width : ℕ → ℕ
width n = suc (first_to 19 (λ k. ltb n (10 ^ suc k)))

-- a count: n in decimal, with no leading zeros
unfoldable pub count_text : ℕ → List ℕ
count_text n = digits_of (width n) n

-- a digit in front of digits that are trimmed: a '0' with nothing behind it goes
abbrev pub before : ℕ → List ℕ → List ℕ
before d [] = pick (eqb d 48) [] (d ∷ [])
before d (e ∷ es) = d ∷ e ∷ es

-- digits without the zeros at their end
abbrev pub trim : List ℕ → List ℕ
trim [] = []
trim (d ∷ ds) = before d (trim ds)

-- a fraction behind its point, or nothing
abbrev pub pointed : List ℕ → List ℕ
pointed [] = []
pointed (d ∷ ds) = 46 ∷ d ∷ ds

-- a time of us microseconds, in milliseconds
unfoldable pub time_text : ℕ → List ℕ
time_text us = count_text (us / 1000) ++ pointed (trim (digits_of 3 (us % 1000)))

-- what a writer of a text answers, of an output that holds `out`
abbrev pub put_answer : List ℕ → List ℕ → Option ℕ
put_answer text out = pick (leb (length text) (length out)) (Some (length text)) None

-- the same of a text that is put at a place of the output, and what the output then holds: but for the text it is as it was
abbrev pub put_answer_at : List ℕ → ℕ → List ℕ → Option ℕ
put_answer_at text at out = pick (leb (at + length text) (length out)) (Some (length text)) None

abbrev pub put_at : List ℕ → ℕ → List ℕ → List ℕ
put_at text at out = pick (leb (at + length text) (length out)) (take at out ++ (text ++ drop (at + length text) out)) out

-- how many bytes a writer's answer says were written: `unwrap_or(0)` of it
abbrev pub put_length : Option ℕ → ℕ
put_length answer = unwrap_or answer 0
