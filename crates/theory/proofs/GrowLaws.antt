-- The law of x, once for all x: never less work for more units, up to D.
-- Assumes nothing.
use Prim.Native.Nat.{ℕ, zero, suc, ◌+◌, ◌-◌, ◌*◌, ◌/◌, ◌≤◌, ◌<◌, min}
use mathlib.Core.Path.{◌≡◌, refl, subst₂}
use native.Mathlib.Nat.{le_refl, mul-le-mul_right, div-mul-le_self, lt-div-mul-add}
use native.Mathlib.Decide.{dec_lt, ℕ_discrete}
use native.Mathlib.Omega.{arith}
use Rattle.theory.specs.Work.{jobs, uncapped, workload}
use Rattle.theory.proofs.WorkLaws.{le_quot}

-- With D = x + d + e, a is t + d + e for x units and t + e for x + d: as many whole periods, or one less
pub workload_grows : (T D t x x' : ℕ) → 0 < T → D ≤ T → x ≤ x' → x' ≤ D → workload T D t x ≤ workload T D t x'
unfolding workload uncapped jobs
workload_grows T D t x x' pos h l k =
    subst₂ (λ (E y : ℕ). workload T E t x ≤ workload T E t y) (omega arith) (omega arith)
    (grow T t x (x' - x) (D - x') pos (omega arith))
  where
    same_periods : (q t T x d e : ℕ) → q * T ≤ t + e → (z : ℕ) → q ≡ z
        → min t (q * x + min x (t + (d + e) - q * T)) ≤ min t (q * (x + d) + min (x + d) (t + e - q * T))
    same_periods q t T x d e l zero z = rw z (omega arith)
    same_periods q t T x d e l (suc k) z = let p : 1 * d ≤ q * d = mul-le-mul_right d (omega arith) in omega arith

    one_less : (q t T x d e : ℕ) → x + d + e ≤ T → suc q * T ≤ t + (d + e) → t + e < q * T + T
        → suc q * x + min x (t + (d + e) - suc q * T) ≤ q * (x + d) + min (x + d) (t + e - q * T)
    one_less q t T x d e k l m = omega arith

    either : (q p t T x d e : ℕ) → x + d + e ≤ T → q * T ≤ t + (d + e) → p * T ≤ t + e → t + e < p * T + T → p ≤ q → q ≤ suc p → Dec (q ≡ p)
        → min t (q * x + min x (t + (d + e) - q * T)) ≤ min t (p * (x + d) + min (x + d) (t + e - p * T))
    either q p t T x d e h l l' m lo hi (yes z) = let u : q * T ≤ t + e = rw z l' in rw (← z) (same_periods q t T x d e u q refl)
    either q p t T x d e h l l' m lo hi (no n) =
        let z : q ≡ suc p = omega arith in
        let u : suc p * T ≤ t + (d + e) = rw (← z) l in
        rw z (omega (arith, one_less p t T x d e h u m))

    jobs_grow : (T t x d e : ℕ) → 0 < T → x + d + e ≤ T → min t (jobs T x (t + (d + e))) ≤ min t (jobs T (x + d) (t + e))
    jobs_grow T t x d e pos h =
        let a = t + (d + e) in
        let b = t + e in
        let q = a / T in
        let p = b / T in
        let l : q * T ≤ a = div-mul-le_self a T in
        let m : a < q * T + T = lt-div-mul-add pos in
        let l' : p * T ≤ b = div-mul-le_self b T in
        let m' : b < p * T + T = lt-div-mul-add pos in
        either q p t T x d e h l l' m'
        (le_quot p q T T b a l' m (le_refl T) (omega arith) (dec_lt q p))
        (le_quot q (suc p) T T a (b + T) l (omega arith) (le_refl T) (omega arith) (dec_lt (suc p) q))
        (ℕ_discrete q p)

    grow : (T t x d e : ℕ) → 0 < T → x + d + e ≤ T → workload T (x + d + e) t x ≤ workload T (x + d + e) t (x + d)
    grow T zero x d e pos h = le_refl 0
    grow T (suc t) x d e pos h =
        subst₂ (λ (a b : ℕ). min (suc t) (jobs T x a) ≤ min (suc t) (jobs T (x + d) b)) (omega arith) (omega arith)
        (jobs_grow T (suc t) x d e pos h)
