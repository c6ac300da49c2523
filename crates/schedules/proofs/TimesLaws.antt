-- The terms of the demand in k-ths of the time unit: each is k times what it was, and the quotient, which is rounded up to a finer unit, at most that.
-- Assumes nothing.
use Prim.Native.Nat.{ℕ, zero, suc, ◌+◌, ◌-◌, ◌*◌, ◌/◌, ◌≤◌, ◌<◌, min, max}
use mathlib.Core.Path.{◌≡◌, refl, sym, ap, ◌∙◌}
use mathlib.Core.Bool.{Bool, true, false, not}
use native.Mathlib.Nat.{mul-zero, mul-add, mul-sub, mul_assoc, mul_left_comm, mul-le-mul_left, one-le-mul, mul-div-mul_left, lt-div-mul-add, div-lt_iff_lt-mul, min-eq_left, min-eq_right}
use native.Mathlib.Decide.{dec_le}
use native.Mathlib.Omega.{arith}
use Rattle.basics.specs.Choice.{only}
use Rattle.basics.specs.Over.{sum_to, max_to}
use Rattle.table.specs.declared.Level.{Level}
use Rattle.table.specs.Limits.{max_resources}
use Rattle.theory.specs.Work.{jobs, uncapped, workload, ceil_div}
use Rattle.theory.specs.View.{View, level, resource, is_above, uses, ceiling, largest_below}
use Rattle.theory.specs.Demand.{shared_CT, other_CT, all_CT, high_CT, DB, S, O, F, L}
use Rattle.schedules.specs.Theorem.{finer}

uncapped_at : (T D t x : ℕ) → 1 ≤ t → uncapped T D t x ≡ jobs T x (t + D - x)
unfolding uncapped
uncapped_at T D zero x h = absurd (omega arith)
uncapped_at T D (suc t) x h = refl

module _ (k : ℕ) (pos : 1 ≤ k) where
  -- ---- k comes out of each word that a demand is made of

  min_times : (x y : ℕ) → min (k * x) (k * y) ≡ k * min x y
  min_times x y = go (dec_le x y)
    where
      go : Dec (x ≤ y) → min (k * x) (k * y) ≡ k * min x y
      go (yes h) = min-eq_left (mul-le-mul_left k h) ∙ ap (λ (z : ℕ). k * z) (sym (min-eq_left h))
      go (no h) = let l : y ≤ x = omega arith in min-eq_right (mul-le-mul_left k l) ∙ ap (λ (z : ℕ). k * z) (sym (min-eq_right l))

  max_times : (x y : ℕ) → max (k * x) (k * y) ≡ k * max x y
  max_times x y = go (dec_le x y)
    where
      go : Dec (x ≤ y) → max (k * x) (k * y) ≡ k * max x y
      go (yes h) = let m = mul-le-mul_left k h in let e : max x y ≡ y = omega arith in rw e (omega arith)
      go (no h) = let l : y ≤ x = omega arith in let m = mul-le-mul_left k l in let e : max x y ≡ x = omega arith in rw e (omega arith)

  only_times : (b : Bool) (x : ℕ) → only b (k * x) ≡ k * only b x
  only_times true x = refl
  only_times false x = sym (mul-zero k)

  sum_times : (n : ℕ) (b : ℕ → Bool) (g h : ℕ → ℕ) → ((l : ℕ) → h l ≡ k * g l) → sum_to n (λ l. only (b l) (h l)) ≡ k * sum_to n (λ l. only (b l) (g l))
  unfolding sum_to
  sum_times zero b g h e = sym (mul-zero k)
  sum_times (suc n) b g h e = rw (sum_times n b g h e, e n, only_times (b n) (g n)) (sym (mul-add k _ _))

  largest_times : (n : ℕ) (b : ℕ → Bool) (g : ℕ → ℕ) → max_to n (λ l. only (b l) (k * g l)) ≡ k * max_to n (λ l. only (b l) (g l))
  unfolding max_to
  largest_times zero b g = sym (mul-zero k)
  largest_times (suc n) b g = rw (largest_times n b g, only_times (b n) (g n)) (max_times _ _)

  jobs_times : (T x a : ℕ) → jobs (k * T) (k * x) (k * a) ≡ k * jobs T x a
  unfolding jobs
  jobs_times T x a =
      let q : k * a / (k * T) ≡ a / T = mul-div-mul_left a T pos in
      let r : k * a - a / T * (k * T) ≡ k * (a - a / T * T) = ap (λ (z : ℕ). k * a - z) (mul_left_comm (a / T) k T) ∙ sym (mul-sub k a (a / T * T)) in
      rw (q, r, min_times x (a - a / T * T), mul_left_comm (a / T) k x) (sym (mul-add k _ _))

  workload_times : (T D t x : ℕ) → workload (k * T) (k * D) (k * t) (k * x) ≡ k * workload T D t x
  unfolding workload
  workload_times T D zero x =
      let a : workload (k * T) (k * D) 0 (k * x) ≡ 0 = omega arith in
      let b : workload T D 0 x ≡ 0 = omega arith in
      rw (mul-zero k, a, b) (sym (mul-zero k))
  workload_times T D (suc t) x =
      let e : k * suc t + k * D - k * x ≡ k * (suc t + D - x) = rw (mul-sub k (suc t + D) x, mul-add k (suc t) D) refl in
      rw (uncapped_at (k * T) (k * D) (k * suc t) (k * x) (one-le-mul pos (omega arith)), uncapped_at T D (suc t) x (omega arith), e, jobs_times T x (suc t + D - x)) (min_times _ _)

  -- ---- the terms

  module _ (v : View) where
    pub shared_CT_times : (i l : Level) → shared_CT (finer k v) i l ≡ k * shared_CT v i l
    unfolding shared_CT
    shared_CT_times i l = sum_times max_resources (λ r. uses v i (resource r)) (λ r. v.CT l (resource r)) _ (λ r. refl)

    pub other_CT_times : (i l : Level) → other_CT (finer k v) i l ≡ k * other_CT v i l
    unfolding other_CT
    other_CT_times i l = sum_times max_resources (λ r. not (uses v i (resource r))) (λ r. v.CT l (resource r)) _ (λ r. refl)

    pub all_CT_times : (l : Level) → all_CT (finer k v) l ≡ k * all_CT v l
    unfolding all_CT
    all_CT_times l = sum_times max_resources (λ r. true) (λ r. v.CT l (resource r)) _ (λ r. refl)

    pub high_CT_times : (i l : Level) → high_CT (finer k v) i l ≡ k * high_CT v i l
    unfolding high_CT ceiling
    high_CT_times i l = sum_times max_resources (λ r. is_above (ceiling v (resource r)) i) (λ r. v.CT l (resource r)) _ (λ r. refl)

    pub free_times : (l : Level) → k * v.C l - all_CT (finer k v) l ≡ k * (v.C l - all_CT v l)
    free_times l = rw (all_CT_times l) (sym (mul-sub k _ _))

    load_times : (t : ℕ) (l : Level) (x y : ℕ) → y ≡ k * x → workload (k * v.T l) (k * v.D l) (k * t) y ≡ k * workload (v.T l) (v.D l) t x
    load_times t l x y e = rw e (workload_times (v.T l) (v.D l) t x)

    pub DB_times : (i : Level) → DB (finer k v) i ≡ k * DB v i
    unfolding DB
    DB_times i = sum_times max_resources (λ r. uses v i (resource r)) (λ r. v.N i (resource r) * largest_below v i (λ l. v.c l (resource r))) _ (λ r. each r)
      where
        each : (r : ℕ) → v.N i (resource r) * largest_below (finer k v) i (λ l. (finer k v).c l (resource r)) ≡ k * (v.N i (resource r) * largest_below v i (λ l. v.c l (resource r)))
        each r = rw (largest_times v.n (λ l. is_above i (level l)) (λ l. v.c (level l) (resource r))) (mul_left_comm (v.N i (resource r)) k _)

    pub S_times : (i : Level) (t : ℕ) → S workload (finer k v) i (k * t) ≡ k * S workload v i t
    unfolding S
    S_times i t = sum_times v.n (λ l. is_above (level l) i) _ _ (λ l. load_times t (level l) _ _ (shared_CT_times i (level l)))

    pub O_times : (i : Level) (t : ℕ) → O workload (finer k v) i (k * t) ≡ k * O workload v i t
    unfolding O
    O_times i t = sum_times v.n (λ l. is_above (level l) i) _ _ (λ l. load_times t (level l) _ _ (other_CT_times i (level l)))

    pub F_times : (i : Level) (t : ℕ) → F workload (finer k v) i (k * t) ≡ k * F workload v i t
    unfolding F
    F_times i t = sum_times v.n (λ l. is_above (level l) i) _ _ (λ l. load_times t (level l) _ _ (free_times (level l)))

    pub L_times : (i : Level) (t : ℕ) → L workload (finer k v) i (k * t) ≡ k * L workload v i t
    unfolding L
    L_times i t = sum_times v.n (λ l. is_above i (level l)) _ _ (λ l. load_times t (level l) _ _ (high_CT_times i (level l)))

  pub quotient_times : (X m : ℕ) → 1 ≤ m → ceil_div (k * X) m ≤ k * ceil_div X m
  unfolding ceil_div
  quotient_times X m h =
      let q = (X + (m - 1)) / m in
      let a : X + (m - 1) < q * m + m = lt-div-mul-add h in
      let l : X ≤ q * m = omega arith in
      let b = mul-le-mul_left k l in
      let c : (k * X + (m - 1)) / m < suc (k * q) = (div-lt_iff_lt-mul h).1 (omega (arith, b, mul_assoc k q m)) in
      omega arith
