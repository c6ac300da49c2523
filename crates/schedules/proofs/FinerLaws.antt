-- A table in k-ths of its time unit: k times a length that covers its demand covers its demand there. The one quotient is rounded up to a finer unit, so that the demand can only be smaller.
-- Assumes nothing.
use Prim.Native.Nat.{ℕ, zero, suc, ◌+◌, ◌-◌, ◌*◌, ◌≤◌}
use mathlib.Core.Path.{◌≡◌}
use mathlib.Core.Bool.{Bool, true, false}
use native.Mathlib.Nat.{mul-zero, mul-le-mul_left, one-mul, one-le-mul}
use native.Mathlib.Omega.{arith}
use lib.Dec.{leb}
use Rattle.basics.specs.Choice.{only, pick}
use Rattle.table.specs.declared.Level.{Level}
use Rattle.theory.specs.Work.{workload, ceil_div}
use Rattle.theory.specs.View.{View, level, is_above}
use Rattle.theory.specs.Demand.{shared_CT, other_CT, all_CT, high_CT, DB, S, O, F, L, demand_with, demand_of, units_read}
use Rattle.schedules.specs.Theorem.{Constrained, Closed, Covers, finer}
use Rattle.schedules.proofs.TimesLaws.{shared_CT_times, other_CT_times, all_CT_times, high_CT_times, free_times, DB_times, S_times, O_times, F_times, L_times, quotient_times}

pub whole_unit : (v : View) → finer 1 v ≡ v
whole_unit v = λ x. record {
  cpus = v.cpus;
  n = v.n;
  T = λ l. one-mul (v.T l) x;
  C = λ l. one-mul (v.C l) x;
  D = λ l. one-mul (v.D l) x;
  N = v.N;
  c = λ l r. one-mul (v.c l r) x;
  CT = λ l r. one-mul (v.CT l r) x;
}

module _ (k : ℕ) (pos : 1 ≤ k) where
  demand_finer : (v : View) (i : Level) (t : ℕ) → 1 ≤ v.cpus → demand_of (finer k v) i (k * t) ≤ k * demand_of v i t
  unfolding demand_with
  demand_finer v i t h =
      rw (DB_times k pos v i, S_times k pos v i t, O_times k pos v i t, F_times k pos v i t, L_times k pos v i t) (go (leb i.0 v.cpus))
    where
      go : (b : Bool) → k * v.C i + k * DB v i + k * S workload v i t + pick b 0 (ceil_div (k * O workload v i t + k * F workload v i t + k * L workload v i t) v.cpus)
          ≤ k * (v.C i + DB v i + S workload v i t + pick b 0 (ceil_div (O workload v i t + F workload v i t + L workload v i t) v.cpus))
      go true = omega arith
      go false =
          let e : k * O workload v i t + k * F workload v i t + k * L workload v i t ≡ k * (O workload v i t + F workload v i t + L workload v i t) = omega arith in
          rw e (omega (arith, quotient_times k pos (O workload v i t + F workload v i t + L workload v i t) v.cpus h))

  units_times : (v : View) (i l : Level) → units_read (finer k v) i l ≡ k * units_read v i l
  unfolding units_read
  units_times v i l =
      rw (shared_CT_times k pos v i l, other_CT_times k pos v i l, high_CT_times k pos v i l, free_times k pos v l) (go (is_above l i) (is_above i l) (leb i.0 v.cpus))
    where
      go : (a b c : Bool) → only a (k * shared_CT v i l) + pick c 0 (only a (k * other_CT v i l + k * (v.C l - all_CT v l)) + only b (k * high_CT v i l))
          ≡ k * (only a (shared_CT v i l) + pick c 0 (only a (other_CT v i l + (v.C l - all_CT v l)) + only b (high_CT v i l)))
      go true true true = omega arith
      go true true false = omega arith
      go true false true = omega arith
      go true false false = omega arith
      go false true true = omega arith
      go false true false = omega arith
      go false false true = omega arith
      go false false false = omega arith

  pub constrained_finer : (v : View) → Constrained v → Constrained (finer k v)
  constrained_finer v c =
      record {
        some = c.some;
        positive = λ l h. one-le-mul pos (c.positive l h);
        run = λ l h. mul-le-mul_left k (c.run l h);
        deadline = λ l h. mul-le-mul_left k (c.deadline l h);
        totals = λ l h. rw (all_CT_times k pos v (level l)) (mul-le-mul_left k (c.totals l h));
        unused = λ l r h m e. rw (c.unused l r h m e) (mul-zero k);
      }

  pub closed_finer : (v : View) (X : ℕ → Type 0) → Closed v X → Closed (finer k v) X
  closed_finer v X c i l m x n u = c i l m x n (some (units_read v (level i) (level l)) (rw (units_times v (level i) (level l)) at u))
    where
      some : (u : ℕ) → 1 ≤ k * u → 1 ≤ u
      some zero e = omega (arith, mul-zero k)
      some (suc u) e = omega arith

  pub covers_finer : (v : View) (X : ℕ → Type 0) (R : ℕ → ℕ) → 1 ≤ v.cpus → Covers demand_of v X R → Covers demand_of (finer k v) X (λ i. k * R i)
  covers_finer v X R h c =
      record {
        low = λ i m x. one-le-mul pos (c.low i m x);
        high = λ i m x. mul-le-mul_left k (c.high i m x);
        covers = λ i m x. omega (arith, demand_finer v (level i) (R i) h, mul-le-mul_left k (c.covers i m x));
      }
