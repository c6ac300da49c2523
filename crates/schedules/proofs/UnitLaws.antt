-- The units of a higher job, as the terms S, O and F count them, and of a lower one, as L does. The report counts in F what a job runs outside its locks as C less all CT. A job that uses its locks less than it may can run
-- longer than that outside them, within its C. So what is above C less all CT is counted as time at locks that i does not use, as far as these are not used up, and else as time at locks that i uses: in S it counts whole,
-- and not divided by m.
-- Assumes nothing.
use Prim.Native.Nat.{ℕ, ◌+◌, ◌-◌, ◌≤◌, ◌<◌}
use mathlib.Core.Bool.{Bool, not, ◌&&◌, ◌||◌}
use native.Mathlib.Nat.{le_trans}
use native.Mathlib.Omega.{arith}
use lib.Dec.{eqb, ltb, leb}
use Rattle.basics.specs.Choice.{only}
use Rattle.basics.specs.Over.{sum_to, count_to}
use Rattle.basics.proofs.ChoiceLaws.{only_below}
use Rattle.basics.proofs.SumLaws.{sum_le}
use Rattle.table.specs.Limits.{max_resources}
use Rattle.theory.specs.View.{View, level, resource, is_above, uses, ceiling}
use Rattle.theory.specs.Demand.{shared_CT, other_CT, all_CT, high_CT}
use Rattle.theory.proofs.PassLaws.{split_all}
use Rattle.schedules.specs.Jobs.{JobSet, Generated}
use Rattle.schedules.specs.Theorem.{Constrained}
use Rattle.schedules.proofs.TallyLaws.{among, count_among, rank_low, rank_mid, rank_high, count_or, count_parts}

module _ (v : View) (J : JobSet) (fit : Constrained v) (o : Generated v J) (i : ℕ) where
  -- at a lock that i uses; that it does not use; whose ceiling is above i; and outside all locks
  abbrev pub own_lock : ℕ → ℕ → ℕ → Bool
  own_lock h j u = among (λ k. uses v (level i) (resource k)) (J.lock h j u)

  abbrev pub other_lock : ℕ → ℕ → ℕ → Bool
  other_lock h j u = among (λ k. not (uses v (level i) (resource k))) (J.lock h j u)

  abbrev pub high_lock : ℕ → ℕ → ℕ → Bool
  high_lock h j u = among (λ k. is_above (ceiling v (resource k)) (level i)) (J.lock h j u)

  abbrev pub no_lock : ℕ → ℕ → ℕ → Bool
  no_lock h j u = eqb (J.lock h j u) 0

  -- of the units without a lock, how many came before; F takes the first so many; O as many more as its time at other locks leaves; S the rest
  abbrev pub before : ℕ → ℕ → ℕ → ℕ
  before h j u = count_to u (no_lock h j)

  abbrev pub budget : ℕ → ℕ
  budget h = v.C (level h) - all_CT v (level h)

  abbrev pub cut : ℕ → ℕ → ℕ
  cut h j = budget h + (other_CT v (level i) (level h) - count_to (J.cost h j) (other_lock h j))

  abbrev pub as_S : ℕ → ℕ → ℕ → Bool
  as_S h j u = own_lock h j u || (no_lock h j u && leb (cut h j) (before h j u))

  abbrev pub as_O : ℕ → ℕ → ℕ → Bool
  as_O h j u = other_lock h j u || (no_lock h j u && (leb (budget h) (before h j u) && ltb (before h j u) (cut h j)))

  abbrev pub as_F : ℕ → ℕ → ℕ → Bool
  as_F h j u = no_lock h j u && ltb (before h j u) (budget h)

  locked : (h : ℕ) → h < v.n → (w : ℕ → Bool) (j : ℕ)
      → count_to (J.cost h j) (λ u. among w (J.lock h j u)) ≤ sum_to max_resources (λ k. only (w k) (v.CT (level h) (resource k)))
  locked h l w j = count_among (J.cost h j) max_resources w (J.lock h j) (λ k. v.CT (level h) (resource k)) (λ u m. o.known h j u l m) (λ k m. o.total h j k l m)

  -- no part of the lock times is above C
  pub within_run : (h : ℕ) → h < v.n → (w : ℕ → Bool) → sum_to max_resources (λ k. only (w k) (v.CT (level h) (resource k))) ≤ v.C (level h)
  unfolding all_CT
  within_run h l w =
      le_trans (sum_le max_resources (λ k. only (w k) (v.CT (level h) (resource k))) (λ k. v.CT (level h) (resource k)) (λ k m. only_below (w k) _))
      (fit.totals h l)

  -- of each job at most the units that its term has
  pub as_S_most : (h : ℕ) → h < v.n → (j : ℕ) → count_to (J.cost h j) (as_S h j) ≤ shared_CT v (level i) (level h)
  unfolding shared_CT other_CT
  as_S_most h l j =
      let a = count_or (J.cost h j) (own_lock h j) (λ u. no_lock h j u && leb (cut h j) (before h j u)) in
      let b = rank_high (J.cost h j) (cut h j) (no_lock h j) in
      let c = locked h l (λ k. not (uses v (level i) (resource k))) j in
      let d = locked h l (λ k. uses v (level i) (resource k)) j in
      let e = count_parts (J.cost h j) (λ k. uses v (level i) (resource k)) (J.lock h j) in
      omega (arith, o.run h j l, split_all v (level i) (level h), fit.totals h l)

  pub as_O_most : (h : ℕ) → h < v.n → (j : ℕ) → count_to (J.cost h j) (as_O h j) ≤ other_CT v (level i) (level h)
  unfolding other_CT
  as_O_most h l j =
      let a = count_or (J.cost h j) (other_lock h j) (λ u. no_lock h j u && (leb (budget h) (before h j u) && ltb (before h j u) (cut h j))) in
      let b = rank_mid (J.cost h j) (budget h) (cut h j) (no_lock h j) in
      let c = locked h l (λ k. not (uses v (level i) (resource k))) j in
      omega arith

  pub as_F_most : (h : ℕ) → h < v.n → (j : ℕ) → count_to (J.cost h j) (as_F h j) ≤ budget h
  as_F_most h l j = omega (arith, rank_low (J.cost h j) (budget h) (no_lock h j))

  pub high_most : (h : ℕ) → h < v.n → (j : ℕ) → count_to (J.cost h j) (high_lock h j) ≤ high_CT v (level i) (level h)
  unfolding high_CT
  high_most h l j = locked h l (λ k. is_above (ceiling v (resource k)) (level i)) j
