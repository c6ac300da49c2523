-- Strides: why they change nothing, `rounds_alike`; and how a workload, and the demand, go on from a length.
-- Assumes nothing.
use Prim.Native.Nat.{ℕ, zero, suc, ◌+◌, ◌-◌, ◌*◌, ◌/◌, ◌≤◌, ◌<◌, min}
use mathlib.Core.Path.{◌≡◌, sym, ap, subst₂}
use native.Mathlib.Nat.{le_refl, mul-le-mul_right, div-mul-le_self, lt-div-mul-add, div-eq_of_lt-le}
use native.Mathlib.Decide.{dec_lt}
use native.Mathlib.Omega.{arith}
use Rattle.theory.specs.Work.{jobs, ceil_div}
use Rattle.theory.proofs.WorkLaws.{jobs_rise, ceil_div_whole}
use Rattle.rounds.specs.declared.Part.{Part}
use Rattle.rounds.specs.declared.Parts.{Parts}
use Rattle.rounds.specs.declared.Shares.{Shares}
use Rattle.rounds.specs.declared.strides.Course.{Course}
use Rattle.rounds.specs.Shares.{whole_of, part_of, shares_demand}
use Rattle.rounds.specs.Outcome.{SoundShares}
use Rattle.rounds.specs.Parts.{part_uncapped, part_load, PartsAre}
use Rattle.rounds.specs.Strides.{Straight, CourseIs, GoneIs, StrideIs, rows_demand}
use Rattle.rounds.proofs.RoundLaws.{Sought, Round, round_more}

-- ---- the rounds

-- Every verdict is given by a round that is really worked out; a stride only moves on to a later length. Of r rounds from t on that climb alike, by 1 at least, each has the
-- demand that the next begins at, so that none repeats its length; the length after them does not pass D; and one round is left after them of those allowed. So none of
-- the r gives a verdict, and what is sought from t on is sought from t + r × climb on, after r rounds more.
module _ {s : Shares} {D A t used climb : ℕ} (g : SoundShares s D) (p : 1 ≤ climb) where
  pub rounds_alike : (r : ℕ) → Sought s D A t used → ((k : ℕ) → k < r → shares_demand s (t + k * climb) ≡ t + k * climb + climb)
      → t + r * climb ≤ D → used + r < A → Sought s D A (t + r * climb) (used + r)
  rounds_alike zero q h a b = subst₂ (λ (v w : ℕ). Sought s D A v w) (omega arith) (omega arith) q
  rounds_alike (suc r) q h a b =
      let i : Sought s D A (t + r * climb) (used + r) = rounds_alike r q (λ k l. h k (omega arith)) (omega arith) (omega arith) in
      let o : Round s D A (t + r * climb) (used + r) (t + r * climb + climb) = record { sound = g; sought = i; is = sym (h r (omega arith)) } in
      subst₂ (λ (v w : ℕ). Sought s D A v w) (omega arith) (omega arith) (round_more o (omega arith) (omega arith) (λ z. omega (arith, z)))

-- the demand by the rows
pub rows_are : {s : Shares} {N M : ℕ} {w : Parts N} {d : Parts M} → PartsAre s s.n whole_of w → PartsAre s s.n part_of d → (t : ℕ) → 1 ≤ t
    → s.base + rows_demand w d s.cpus t ≡ shares_demand s t
unfolding shares_demand
rows_are p q t h = rw (p.are t h, q.are t h) (omega arith)

-- a stride from t on, where the round at t climbs by `climb`
pub stride_more : {s : Shares} {N M : ℕ} {w : Parts N} {d : Parts M} {D A t used f climb reach headway left r : ℕ} → Round s D A t used f
    → PartsAre s s.n whole_of w → PartsAre s s.n part_of d → Straight (rows_demand w d s.cpus) t 1 reach → StrideIs reach climb headway left r
    → t + climb ≡ f → 1 ≤ climb → t + headway ≤ D → used + left < A → Sought s D A (t + r * climb) (used + r)
stride_more {s} {t} {climb} {r} o p q straight st e c a b =
    rounds_alike o.sound c r o.sought alike (omega (arith, st.fits)) (omega (arith, st.few))
  where
    alike : (k : ℕ) → k < r → shares_demand s (t + k * climb) ≡ t + k * climb + climb
    alike k i =
        let m : k * climb ≤ (r - 1) * climb = mul-le-mul_right climb (omega arith) in
        let low : 1 ≤ t = o.sought.low in
        omega (arith, rows_are p q (t + k * climb) (omega arith), rows_are p q t low, straight (k * climb) (omega (arith, st.begins)), o.is)

-- ---- one workload

-- up to the end of the period in which a lies, that end included, the quotient of a serves
jobs_on : (T x a g : ℕ) → 0 < T → x ≤ T → a - a / T * T + g ≤ T → Dec (a - a / T * T + g < T) → jobs T x (a + g) ≡ a / T * x + min x (a - a / T * T + g)
unfolding jobs
jobs_on T x a g pos k h (yes l) =
    let m : a / T * T ≤ a = div-mul-le_self a T in
    let e : (a + g) / T ≡ a / T = div-eq_of_lt-le T (omega arith) (omega arith) in
    rw e (omega arith)
jobs_on T x a g pos k h (no l) =
    let m : a / T * T ≤ a = div-mul-le_self a T in
    let e : (a + g) / T ≡ a / T + 1 = div-eq_of_lt-le T (omega arith) (omega arith) in
    rw e (omega arith)

-- one job after the other
jobs_full : (T a : ℕ) → 0 < T → jobs T T a ≡ a
unfolding jobs
jobs_full T a pos = omega (arith, div-mul-le_self a T, lt-div-mul-add {a = a} pos)

module _ (e : Part) (t : ℕ) where
  shift : (g : ℕ) → t + g + e.off ≡ t + e.off + g
  shift g = omega arith

  load_on : {r : ℕ} → GoneIs e t r → (g : ℕ) → r + g ≤ e.period → part_uncapped e (t + g) ≡ (t + e.off) / e.period * e.units + min e.units (r + g)
  load_on {r} p g h = rw (shift g, p.is) (jobs_on e.period e.units (t + e.off) g e.good.period_least e.good.units_period (omega (arith, p.is)) (dec_lt _ _))

  load_here : {r : ℕ} → GoneIs e t r → part_uncapped e t ≡ (t + e.off) / e.period * e.units + min e.units r
  unfolding jobs
  load_here p = rw p.is

  pub goes_full : e.units ≡ e.period → (reach : ℕ) → Straight (part_load e) t 1 reach
  goes_full q reach g h = rw q (omega (arith, jobs_full e.period (t + g + e.off) e.good.period_least, jobs_full e.period (t + e.off) e.good.period_least))

  -- a job runs
  pub goes_running : {r reach : ℕ} → GoneIs e t r → r + reach ≤ e.units → Straight (part_load e) t 1 reach
  goes_running p h g k = omega (arith, e.good.units_period, load_on p g (omega (arith, e.good.units_period)), load_here p)

  -- the cap holds it at t
  pub goes_capped : {reach : ℕ} → t + reach ≤ part_uncapped e t → Straight (part_load e) t 1 reach
  goes_capped h g k =
      let l : t + e.off ≤ t + e.off + g = omega arith in
      rw (shift g) (omega (arith, jobs_rise {T = e.period} {T' = e.period} e.units e.good.period_least (le_refl e.period) l))

  -- neither does a job run nor does the cap hold it
  pub goes_flat : {r reach : ℕ} → GoneIs e t r → part_uncapped e t ≤ t → e.units ≤ r → r + reach ≤ e.period → Straight (part_load e) t 0 reach
  goes_flat p l m h g k = omega (arith, load_on p g (omega arith), load_here p)

-- ---- the workloads of a row

-- a sum and one workload more
pub course_more : {f g h : ℕ → ℕ} {n t : ℕ} {r one r' : Course} → CourseIs f n t r → CourseIs g 1 t one → ((s : ℕ) → h s ≡ f s + g s)
    → r'.rises ≡ r.rises + one.rises → r'.reach ≡ min r.reach one.reach → CourseIs h (n + 1) t r'
course_more {t} p q a e f =
    record {
      few = omega (arith, p.few, q.few);
      straight = λ g h. rw e (omega (arith, a (t + g), a t, p.straight g (omega arith), q.straight g (omega arith)));
    }

-- the same sum, said in another way, of no fewer
pub course_same : {f h : ℕ → ℕ} {n m t : ℕ} {r : Course} → CourseIs f n t r → n ≤ m → ((s : ℕ) → h s ≡ f s) → CourseIs h m t r
course_same {t} p l e =
    record { few = omega (arith, p.few); straight = λ g h. omega (arith, e (t + g), e t, p.straight g h) }

-- ---- the demand over the rows

-- no distance at all
pub straight_none : (f : ℕ → ℕ) (t : ℕ) → Straight f t 1 0
straight_none f t g h =
    let e : t + g ≡ t = omega arith in
    let z : g ≡ 0 = omega arith in
    rw (e, z) (omega arith)

-- Where one workload that counts whole rises, or m of those that are divided, the demand rises by one. Taken m times, those that count whole could be divided too; then what is
-- divided by m rises by m with each microsecond.
pub rises_evenly : (w d : ℕ → ℕ) (t : ℕ) {m reach n n' : ℕ} {x y : Course} → 1 ≤ m → CourseIs w n t x → CourseIs d n' t y → x.rises * m + y.rises ≡ m
    → reach ≤ x.reach → reach ≤ y.reach → Straight (λ s. w s + ceil_div (d s) m) t 1 reach
rises_evenly w d t {m} {x} {y} pos p q e k l g h =
    let i : (x.rises * m + y.rises) * g ≡ m * g = rw e in
    let z : d (t + g) + w (t + g) * m ≡ d t + (w t + g) * m = rw (p.straight g (omega arith), q.straight g (omega arith)) (omega (arith, i)) in
    omega (arith, ceil_div_whole m (w (t + g)) (d (t + g)) pos, ceil_div_whole m (w t + g) (d t) pos, ap (λ (k : ℕ). ceil_div k m) z)
