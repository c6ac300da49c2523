-- A product that divides: for n × d < P, n / d is n × (P / d + 1) / P; and the parts that are made by it.
-- Assumes nothing.
use Rattle.std.proofs.Common.{ℕ, ◌+◌, ◌-◌, ◌*◌, ◌/◌, ◌^◌, ◌≤◌, ◌<◌, ◌≡◌, lit<, sym, arith}
use Rattle.std.proofs.Math.Nat.{mul-le-mul_left, mul-le-mul_right, lt_of_mul-lt-mul_right, div-mul-le_self, div-le_self, lt-div-mul-add, div-eq_of_lt-le}
use Rattle.std.specs.Int.{div_ceil}
use Rattle.std.proofs.lemmas.Grind.{div_ceil_times}
use Rattle.theory.specs.Work.{jobs, ceil_div}
use Rattle.rounds.specs.Outcome.{Sound}
use Rattle.rounds.specs.Part.{max_span, Divides, GoodPart}

-- after Granlund and Montgomery, but P need not be a power of 2
mul_div : (d P n : ℕ) → 0 < d → n * d < P → n * (P / d + 1) / P ≡ n / d
mul_div d P n hd small =
    let m = P / d + 1 in
    let lo : P ≤ m * d = omega (arith, lt-div-mul-add {a = P} hd) in
    let hi : m * d ≤ P + d = omega (arith, div-mul-le_self P d) in
    let next : n < n / d * d + d = lt-div-mul-add hd in
    div-eq_of_lt-le P
    (omega (arith, mul-le-mul_left (n / d) lo, mul-le-mul_right m (div-mul-le_self n d)))
    (lt_of_mul-lt-mul_right d (omega (arith, mul-le-mul_left n hi, mul-le-mul_right P next)))

-- so a multiplier divides, where its power of 2 is large enough
divides : {T : ℕ} (shift : ℕ) → shift < 64 → 1 ≤ T → max_span * T < 2 ^ shift → 2 ^ shift / T ≤ 2 ^ 38 → Divides T shift (2 ^ shift / T + 1)
divides {T} shift s p h q =
    record { short = s; small = omega arith; right = λ a k. mul_div T (2 ^ shift) a p (omega (arith, mul-le-mul_right T k)) }

-- the parts that the two powers make
module _ {T D x : ℕ} (s : Sound T D x) where
  good : {shift mul : ℕ} → Divides T shift mul → GoodPart T x (D - x) shift mul
  good d = record { period_least = s.period_least; units_period = omega arith; near = omega arith; divides = d }

  pub short_good : T < 8_192 → GoodPart T x (D - x) 38 (2 ^ 38 / T + 1)
  short_good h = good (divides 38 (lit< tt) s.period_least (omega arith) (div-le_self (2 ^ 38) T))

  pub long_good : 8_192 ≤ T → GoodPart T x (D - x) 49 (2 ^ 49 / T + 1)
  long_good h =
      good (divides 49 (lit< tt) s.period_least (omega arith)
      (omega (arith, mul-le-mul_left (2 ^ 49 / T) h, div-mul-le_self (2 ^ 49) T)))

-- by the quotient a workload is no more than its length
pub jobs_fit : (T x a : ℕ) → x ≤ T → jobs T x a ≤ a
unfolding jobs
jobs_fit T x a h = omega (arith, mul-le-mul_left (a / T) h, div-mul-le_self a T)

-- the quotient rounded up, as the library says it
pub ceil_is : (n m : ℕ) → 0 < m → div_ceil n m ≡ ceil_div n m
unfolding ceil_div
ceil_is n m pos =
    let b = div_ceil_times n m pos in
    sym (div-eq_of_lt-le m (omega (arith, b.0)) (omega (arith, b.1)))
