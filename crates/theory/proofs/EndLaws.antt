-- The rounds of a demand that never falls and is at least C: they come to an end, in at most D − C + 1, and to the right verdict.
-- Assumes nothing.
use Prim.Native.Nat.{ℕ, zero, suc, ◌-◌, ◌+◌, ◌≤◌, ◌<◌}
use mathlib.Core.Path.{◌≡◌, refl, ap}
use mathlib.Core.Logic.{inl, inr}
use native.Mathlib.Decide.{dec_lt, ℕ_discrete}
use native.Mathlib.Omega.{arith}
use Rattle.theory.specs.declared.Verdict.{Verdict}
use Rattle.theory.specs.declared.Verdict.TheVariants.{Meets, Misses, Open}
use Rattle.theory.specs.Bound.{Least, None}
use Rattle.theory.specs.Rounds.{counted_from, Counts}
use Rattle.theory.proofs.LeastLaws.{Rises, From, from_start, from_step, past, least_unique, least_none}
use Rattle.theory.proofs.RoundLaws.{round_repeats, round_passes, round_goes_on, no_end, counts_once, counts_more}

module _ (f : ℕ → ℕ) (D : ℕ) where
  -- what a verdict that is not open is to say
  abbrev pub Right : Verdict → Type 0
  Right (Meets t) = Least f D t
  Right Misses = None f D
  Right Open = Unit {0}

  -- no two say different things
  pub meets_if : (v : Verdict) → Right v → (v ≡ Open → ⊥) → (u : ℕ) → Least f D u → v ≡ Meets u
  meets_if (Meets t) r q u l = ap Meets (least_unique f D t u r l)
  meets_if Misses r q u l = absurd (least_none f D u l r)
  meets_if Open r q u l = absurd (q refl)

  pub misses_if : (v : Verdict) → Right v → (v ≡ Open → ⊥) → None f D → v ≡ Misses
  misses_if (Meets t) r q l = absurd (least_none f D t r l)
  misses_if Misses r q l = refl
  misses_if Open r q l = absurd (q refl)

module _ (f : ℕ → ℕ) (D : ℕ) (up : Rises f) where
  -- the lengths rise, so they come to an end: what is left of D falls with each
  counts_step : (t : ℕ) → t ≤ D → t ≤ f t → (f t ≤ D → t < f t → (n : ℕ) × Counts f D (f t) n × (n ≤ D - f t + 1)) → Dec (f t ≡ t) → Dec (D < f t)
      → (n : ℕ) × Counts f D t n × (n ≤ D - t + 1)
  counts_step t h k rest (yes e) d = (1, counts_once f D t (inl e), omega arith)
  counts_step t h k rest (no e) (yes d) = (1, counts_once f D t (inr d), omega arith)
  counts_step t h k rest (no e) (no d) =
      let l : t < f t = omega arith in
      let r = rest (omega arith) l in
      (suc r.0, counts_more f D t r.0 (no_end f D t e d) r.1, omega (arith, r.2))

  counts_by : (left t : ℕ) → D ≤ t + left → t ≤ D → t ≤ f t → (n : ℕ) × Counts f D t n × (n ≤ D - t + 1)
  counts_by zero t g h k = counts_step t h k (λ m l. absurd (omega arith)) (ℕ_discrete (f t) t) (dec_lt D (f t))
  counts_by (suc left) t g h k = counts_step t h k (λ m l. counts_by left (f t) (omega arith) m (up t (f t) k)) (ℕ_discrete (f t) t) (dec_lt D (f t))

  -- "It must be shown to be at most D − C + 1"
  pub counts_exists : (C : ℕ) → C ≤ D → C ≤ f C → (n : ℕ) × Counts f D C n × (n ≤ D - C + 1)
  counts_exists C h k = counts_by D C (omega arith) h k

  right_step : (left t : ℕ) → 1 ≤ t → t ≤ D → From f t → (1 ≤ f t → f t ≤ D → Right f D (counted_from f D left (f t)).verdict) → t ≤ f t → Dec (f t ≡ t) → Dec (D < f t)
      → Right f D (counted_from f D (suc left) t).verdict
  right_step left t p h from rest k (yes e) d = rw (round_repeats f D left t e) (record { low = p; high = h; meets = omega arith; least = from })
  right_step left t p h from rest k (no e) (yes d) = rw (round_passes f D left t e d) (past f D (f t) d (from_step f t up from))
  right_step left t p h from rest k (no e) (no d) = rw (round_goes_on f D left t e (omega arith)) (rest (omega arith) (omega arith))

  right_by : (left t : ℕ) → 1 ≤ t → t ≤ D → From f t → t ≤ f t → Right f D (counted_from f D left t).verdict
  unfolding counted_from
  right_by zero t p h from k = tt
  right_by (suc left) t p h from k =
      right_step left t p h from (λ a b. right_by left (f t) a b (from_step f t up from) (up t (f t) k)) k (ℕ_discrete (f t) t) (dec_lt D (f t))

  pub counted_right : (A C : ℕ) → 1 ≤ C → C ≤ D → ((s : ℕ) → C ≤ f s) → Right f D (counted_from f D A C).verdict
  counted_right A C p h start = right_by A C p h (from_start f C start) (start C)
