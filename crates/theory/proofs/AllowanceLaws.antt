-- What an allowance makes of the rounds, for any demand: when the verdict is open, what the rounds are, and that what is not open stays under a larger one.
-- Assumes nothing.
use Prim.Native.Nat.{ℕ, zero, suc, ◌-◌, ◌≤◌, ◌<◌}
use mathlib.Core.Path.{◌≡◌, refl, sym, ap, ◌∙◌}
use mathlib.Core.Logic.{inl, inr}
use native.Mathlib.Nat.{not-suc-le-zero}
use native.Mathlib.Decide.{dec_lt, ℕ_discrete}
use native.Mathlib.Omega.{arith}
use Rattle.theory.specs.declared.Verdict.{Verdict}
use Rattle.theory.specs.declared.Verdict.TheVariants.{Meets, Misses, Open}
use Rattle.theory.specs.declared.Counted.{Counted}
use Rattle.theory.specs.Rounds.{one_more, counted_from, length_after, Ends, Counts}
use Rattle.theory.proofs.RoundLaws.{round_repeats, round_passes, round_goes_on, no_end, counts_once, counts_more, counts_unique}

module _ (f : ℕ → ℕ) (D : ℕ) where
  -- none of the first rounds is the last
  abbrev Going : ℕ → ℕ → Type 0
  Going left t = (k : ℕ) → k < left → Ends f D (length_after f k t) → ⊥

  -- what a verdict says of the rounds n, so many being allowed
  abbrev Said : Verdict → ℕ → ℕ → ℕ → Type 0
  Said Open left t n = (n ≡ left) × Going left t
  Said (Meets u) left t n = (n ≤ left) × Counts f D t n
  Said Misses left t n = (n ≤ left) × Counts f D t n

  said_more : (v : Verdict) (left t n : ℕ) → (Ends f D t → ⊥) → Said v left (f t) n → Said v (suc left) t (suc n)
  unfolding length_after
  said_more Open left t n on s = (ap suc s.0, go)
    where
      go : (k : ℕ) → k < suc left → Ends f D (length_after f k t) → ⊥
      go zero h e = on e
      go (suc k) h e = s.1 k (omega arith) e
  said_more (Meets u) left t n on s = (omega (arith, s.0), counts_more f D t n on s.1)
  said_more Misses left t n on s = (omega (arith, s.0), counts_more f D t n on s.1)

  abbrev Told : ℕ → ℕ → Type 0
  Told left t = let r = counted_from f D left t in Said r.verdict left t r.rounds

  told_step : (left t : ℕ) → Told left (f t) → Dec (f t ≡ t) → Dec (D < f t) → Told (suc left) t
  told_step left t rest (yes e) d = rw (round_repeats f D left t e) (omega arith, counts_once f D t (inl e))
  told_step left t rest (no e) (yes d) = rw (round_passes f D left t e d) (omega arith, counts_once f D t (inr d))
  told_step left t rest (no e) (no d) =
      let r = counted_from f D left (f t) in
      rw (round_goes_on f D left t e (omega arith)) (said_more r.verdict left t r.rounds (no_end f D t e d) rest)

  -- one fact of the rounds, from which the rest is read off
  told : (left t : ℕ) → Told left t
  unfolding counted_from
  told zero t = (refl, λ k h. absurd (not-suc-le-zero h))
  told (suc left) t = told_step left t (told left (f t)) (ℕ_discrete (f t) t) (dec_lt D (f t))

  module _ (A C : ℕ) where
    abbrev r : Counted
    r = counted_from f D A C

    -- "exactly when it runs out": then the rounds are the allowance, and none of them was the last
    open_by : (v : Verdict) (n : ℕ) → Said v A C n → v ≡ Open → (n ≡ A) × Going A C
    open_by Open n s e = s
    open_by (Meets u) n s e = let z : ◌≡◌ {A = ℕ} 0 1 = cc in absurd (omega arith)
    open_by Misses n s e = let z : ◌≡◌ {A = ℕ} 0 1 = cc in absurd (omega arith)

    settled_by : (v : Verdict) (n : ℕ) → Said v A C n → (v ≡ Open → ⊥) → (n ≤ A) × Counts f D C n
    settled_by Open n s q = absurd (q refl)
    settled_by (Meets u) n s q = s
    settled_by Misses n s q = s

    pub open_rounds : (counted_from f D A C).verdict ≡ Open → ((counted_from f D A C).rounds ≡ A) × Going A C
    open_rounds = open_by r.verdict r.rounds (told A C)

    pub settled_rounds : ((counted_from f D A C).verdict ≡ Open → ⊥) → ((counted_from f D A C).rounds ≤ A) × Counts f D C (counted_from f D A C).rounds
    settled_rounds = settled_by r.verdict r.rounds (told A C)

    -- and only then
    going_by : (v : Verdict) (n : ℕ) → Said v A C n → Going A C → v ≡ Open
    going_by Open n s g = refl
    going_by (Meets u) n s g = absurd (g (n - 1) (omega (arith, s.0, s.1.some)) s.1.ends)
    going_by Misses n s g = absurd (g (n - 1) (omega (arith, s.0, s.1.some)) s.1.ends)

    pub going_open : Going A C → (counted_from f D A C).verdict ≡ Open
    going_open = going_by r.verdict r.rounds (told A C)

    -- by the count n
    pub open_above : (n : ℕ) → Counts f D C n → A < n → (counted_from f D A C).verdict ≡ Open
    open_above n c h = going_open (λ k l. c.goes_on k (omega arith))

    pub open_count : (n : ℕ) → Counts f D C n → (counted_from f D A C).verdict ≡ Open → A < n
    open_count n c e = go (dec_lt A n)
      where
        go : Dec (A < n) → A < n
        go (yes h) = h
        go (no h) = absurd ((open_rounds e).1 (n - 1) (omega (arith, c.some)) c.ends)

    most_by : (v : Verdict) (m n : ℕ) → Counts f D C n → (v ≡ Open → A < n) → Said v A C m → m ≤ n
    most_by Open m n c h s = omega (arith, s.0, h refl)
    most_by (Meets u) m n c h s = omega (arith, counts_unique f D C m n s.1 c)
    most_by Misses m n c h s = omega (arith, counts_unique f D C m n s.1 c)

    pub rounds_most : (n : ℕ) → Counts f D C n → (counted_from f D A C).rounds ≤ n
    rounds_most n c = most_by r.verdict r.rounds n c (open_count n c) (told A C)

  -- a verdict other than open stays the same under every larger allowance, and so does its count
  stays_step : (A B t : ℕ) → (((counted_from f D A (f t)).verdict ≡ Open → ⊥) → counted_from f D B (f t) ≡ counted_from f D A (f t))
      → Dec (f t ≡ t) → Dec (D < f t) → ((counted_from f D (suc A) t).verdict ≡ Open → ⊥) → counted_from f D (suc B) t ≡ counted_from f D (suc A) t
  stays_step A B t rest (yes e) d q = round_repeats f D B t e ∙ sym (round_repeats f D A t e)
  stays_step A B t rest (no e) (yes d) q = round_passes f D B t e d ∙ sym (round_passes f D A t e d)
  stays_step A B t rest (no e) (no d) q =
      let l : f t ≤ D = omega arith in
      let g = round_goes_on f D A t e l in
      round_goes_on f D B t e l ∙ ap one_more (rest (λ o. q (ap (λ (r : Counted). r.verdict) g ∙ o))) ∙ sym g

  pub stays : (A B t : ℕ) → A ≤ B → ((counted_from f D A t).verdict ≡ Open → ⊥) → counted_from f D B t ≡ counted_from f D A t
  unfolding counted_from
  stays zero B t h q = absurd (q refl)
  stays (suc A) zero t h q = absurd (not-suc-le-zero h)
  stays (suc A) (suc B) t h q = stays_step A B t (stays A B (f t) (omega arith)) (ℕ_discrete (f t) t) (dec_lt D (f t)) q
