-- Request 1/12 of document 02: times with up to six decimals. C, c and CT are rounded up to the microsecond, T and D down.
-- That "4, 5 and 7 are decided on the rounded values" is in `Correct` and `Complete` of demand 2, whose rules are those of what the table holds, and, of refusals, in `listing` of `FirstDecides` of demand 1.
-- What is said here is said of each figure and not of verdicts: docs/DECISIONS.md has a listing whose second task would miss by the figures as typed and meets by the rounded ones.
use Rattle.std.specs.Prelude.{ℕ, ◌≤◌, ◌<◌, ◌≡◌, true, None, List, ◌++◌, length}
use contract.Lifetimes.{Lfts}
use Rattle.basics.specs.Exactly.{◌exactly_if◌}
use Rattle.field.specs.declared.Rounding.{Rounding}
use Rattle.field.specs.Number.{first, ends, time_field, reads_as}
use Rattle.field.specs.Spelling.{StatesTime}
use Rattle.field.specs.ThreeDecimals.{short_time, decimals}
use Rattle.field.proofs.time.Reads as time
use Rattle.put.specs.Text.{time_text}
use Rattle.meaning.specs.Sides.{Sides}
use Rattle.promises.specs.Words.{Answers}

pub record Decimals : Type 0 where
  -- the reader of a time field answers what `time_field` says, rounding as it is told
  pub entry : (κs : Lfts 1) → Answers (time.Learnt κs) (λ a. time_field a.1.0 a.0.now)
  -- "Accept four to six fraction digits", rounded as told: a field reads as v exactly if it states a time that is held as v
  pub reads : (way : Rounding) (s : List ℕ) (v : ℕ)
      → ((n : ℕ) × (time_field way s ≡ reads_as v n)) exactly_if ((typed : ℕ) × StatesTime way (first s) (record { typed = typed; held = v }))
  -- "3 is for seven digits or more"
  pub seven : (way : Rounding) (s : List ℕ) → 6 < decimals (first s) → time_field way s ≡ None
  -- "Fields with at most three decimals read as before", as document 01 has them, whichever way is told
  pub as_before : (way : Rounding) (s : List ℕ) → decimals (first s) ≤ 3 → time_field way s ≡ short_time s
  -- "the writer does not change": what it writes is read back, whichever way is told, at the end of a text or before what parts it from the next field
  pub back : (way : Rounding) (us : ℕ) (z : List ℕ) → us ≤ 99_999_999 → ends z ≡ true → time_field way (time_text us ++ z) ≡ reads_as us (length (time_text us))
  -- of the table of an accepted listing every T and D is at most what was typed, every C, c and CT at least, and each is less than a microsecond away
  pub sides : Sides
