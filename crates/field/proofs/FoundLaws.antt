-- Laws of a count, a fraction and a time, by what the code finds on the way.
-- Assumes nothing.
use Prim.Native.Nat.{ℕ, ◌+◌, ◌-◌, ◌*◌, ◌^◌}
use mathlib.Core.Path.{◌≡◌}
use mathlib.Core.Bool.{true, false, and-false}
use mathlib.Core.List.{List}
use native.Mathlib.Omega.{arith}
use lib.ListN.{length, drop}
use Rattle.std.specs.Prelude.{None}
use Rattle.basics.specs.Choice.{within}
use Rattle.basics.proofs.ChoiceLaws.{within_in, within_low, within_high}
use Rattle.field.specs.declared.Rounding.{Rounding}
use Rattle.field.specs.Number.{reads_as, digits, number, rounded, time_field, count_field, fraction, ends, point}
use Rattle.field.specs.Runs.{run_of}
use Rattle.field.proofs.DigitLaws.{pick_same, run_is, run_is_long, padded_number, whole_nanos}
use Rattle.field.proofs.RoundingLaws.{rounded_past, rounded_whole}

-- ---- a count, by what the code finds on the way

pub count_long : (s : List ℕ) → None ≡ run_of 4 s → None ≡ count_field s
unfolding count_field
count_long s e = let h = run_is_long 4 s e in rw (within_high 1 4 (length (digits s)) (omega arith))

module _ (s : List ℕ) (n v : ℕ) (e : reads_as v n ≡ run_of 4 s) where
  pub count_none : n ≡ 0 → None ≡ count_field s
  unfolding count_field
  count_none h = let r = run_is 4 s n v e in rw (within_low 1 4 (length (digits s)) (omega arith))

  pub count_open : ends (drop n s) ≡ false → None ≡ count_field s
  unfolding count_field
  count_open h = let r = run_is 4 s n v e in rw (← r.0, h, and-false)

  pub count_ok : (n ≡ 0 → ⊥) → ends (drop n s) ≡ true → reads_as v n ≡ count_field s
  unfolding count_field
  count_ok l h = let r = run_is 4 s n v e in rw (← r.0, ← r.1, within_in 1 4 n (omega arith) (omega arith), h)

-- ---- a fraction

module _ (way : Rounding) (v at : ℕ) (s : List ℕ) where
  pub fraction_long : None ≡ run_of 6 s → None ≡ fraction way v at s
  unfolding fraction
  fraction_long e = let h = run_is_long 6 s e in rw (within_high 1 6 (length (digits s)) (omega arith))

  module _ (n x : ℕ) (e : reads_as x n ≡ run_of 6 s) where
    pub fraction_none : n ≡ 0 → None ≡ fraction way v at s
    unfolding fraction
    fraction_none h = let r = run_is 6 s n x e in rw (within_low 1 6 (length (digits s)) (omega arith))

    pub fraction_open : ends (drop n s) ≡ false → None ≡ fraction way v at s
    unfolding fraction
    fraction_open h = let r = run_is 6 s n x e in rw (← r.0, h, and-false)

    pub fraction_ok : (ns us : ℕ) → ns ≡ x * 10 ^ (6 - n) → us ≡ rounded way ns → (n ≡ 0 → ⊥) → ends (drop n s) ≡ true
        → reads_as (v * 1000 + us) (at + n) ≡ fraction way v at s
    unfolding fraction
    fraction_ok ns us z w l h =
        let r = run_is 6 s n x e in
        rw (padded_number v (digits s) (omega arith), ← r.0, ← r.1, ← z, rounded_past way v ns, w, within_in 1 6 n (omega arith) (omega arith), h)

-- ---- a time

module _ (way : Rounding) (s : List ℕ) where
  pub time_long : None ≡ run_of 5 s → None ≡ time_field way s
  unfolding time_field
  time_long e = let h = run_is_long 5 s e in rw (within_high 1 5 (length (digits s)) (omega arith))

  module _ (n v : ℕ) (e : reads_as v n ≡ run_of 5 s) where
    pub time_none : n ≡ 0 → None ≡ time_field way s
    unfolding time_field
    time_none h = let r = run_is 5 s n v e in rw (within_low 1 5 (length (digits s)) (omega arith))

    pub time_whole : (n ≡ 0 → ⊥) → ends (drop n s) ≡ true → reads_as (v * 1000) n ≡ time_field way s
    unfolding time_field
    time_whole l h =
        let r = run_is 5 s n v e in
        rw (whole_nanos (number 0 (digits s)), rounded_whole way (number 0 (digits s) * 1000), ← r.0, ← r.1, within_in 1 5 n (omega arith) (omega arith), h)

    pub time_other : ends (drop n s) ≡ false → point (drop n s) ≡ false → None ≡ time_field way s
    unfolding time_field
    time_other h p = let r = run_is 5 s n v e in rw (← r.0, h, p) (pick_same (within 1 5 n))

    pub time_fraction : (n ≡ 0 → ⊥) → ends (drop n s) ≡ false → point (drop n s) ≡ true → fraction way v (n + 1) (drop (n + 1) s) ≡ time_field way s
    unfolding time_field
    time_fraction l h p = let r = run_is 5 s n v e in rw (← r.0, ← r.1, within_in 1 5 n (omega arith) (omega arith), h, p)
