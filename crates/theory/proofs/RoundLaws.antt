-- The rounds, for any demand: one round, and the count without an allowance.
-- Assumes nothing.
use Prim.Native.Nat.{ℕ, zero, suc, ◌-◌, ◌≤◌, ◌<◌}
use mathlib.Core.Path.{◌≡◌}
use mathlib.Core.Logic.{inl, inr}
use native.Mathlib.Nat.{le_refl, le_antisymm, not-suc-le-zero}
use native.Mathlib.Numerals.{unary_clauses}
use native.Mathlib.Decide.{dec_lt}
use native.Mathlib.Omega.{arith}
use borrow.Author.Tests.{lt-ltb, le-ltb, eq-eqb, ne_eqb}
use Rattle.theory.specs.declared.Verdict.TheVariants.{Meets, Misses}
use Rattle.theory.specs.Rounds.{once, one_more, counted_from, length_after, Ends, Counts}

-- ---- one round

module _ (f : ℕ → ℕ) (D left t : ℕ) where
  pub round_repeats : f t ≡ t → counted_from f D (suc left) t ≡ once (Meets t)
  unfolding counted_from
  round_repeats e = rw (eq-eqb (f t) t e)

  pub round_passes : (f t ≡ t → ⊥) → D < f t → counted_from f D (suc left) t ≡ once Misses
  unfolding counted_from
  round_passes n d = rw (ne_eqb (f t) t n, lt-ltb D (f t) d)

  pub round_goes_on : (f t ≡ t → ⊥) → f t ≤ D → counted_from f D (suc left) t ≡ one_more (counted_from f D left (f t))
  unfolding counted_from
  round_goes_on n d = rw (ne_eqb (f t) t n, le-ltb D (f t) d)

-- ---- the count without an allowance

module _ (f : ℕ → ℕ) (D : ℕ) where
  pub no_end : (t : ℕ) → (f t ≡ t → ⊥) → (D < f t → ⊥) → Ends f D t → ⊥
  no_end t n d (inl e) = n e
  no_end t n d (inr e) = d e

  pub counts_once : (t : ℕ) → Ends f D t → Counts f D t 1
  unfolding length_after
  counts_once t e = record { some = le_refl 1; ends = e; goes_on = λ k h. absurd (omega arith) }

  pub counts_more : (t n : ℕ) → (Ends f D t → ⊥) → Counts f D (f t) n → Counts f D t (suc n)
  unfolding length_after
  counts_more t zero on c = absurd (not-suc-le-zero c.some)
  counts_more t (suc n) on c = record { some = omega arith; ends = simp unary_clauses (simp unary_clauses at c.ends); goes_on = later }
    where
      later : (k : ℕ) → suc k < suc (suc n) → Ends f D (length_after f k t) → ⊥
      later zero h e = on e
      later (suc k) h e = c.goes_on k (omega arith) e

  -- the round after which another count ends is none that goes on
  counts_le : (C n m : ℕ) → Counts f D C n → Counts f D C m → Dec (m < n) → n ≤ m
  counts_le C n m p q (yes l) =
      let e : suc (m - 1) ≡ m = omega (arith, q.some) in
      absurd (p.goes_on (m - 1) (rw e l) q.ends)
  counts_le C n m p q (no l) = omega arith

  pub counts_unique : (C n m : ℕ) → Counts f D C n → Counts f D C m → n ≡ m
  counts_unique C n m p q = le_antisymm (counts_le C n m p q (dec_lt m n)) (counts_le C m n q p (dec_lt n m))
