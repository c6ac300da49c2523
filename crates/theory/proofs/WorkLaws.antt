-- The laws of the workload, once for all x, and of the quotient rounded up.
-- Assumes nothing.
use Prim.Native.Nat.{ℕ, zero, suc, ◌+◌, ◌-◌, ◌*◌, ◌/◌, ◌≤◌, ◌<◌, min, zero-le}
use mathlib.Core.Path.{◌≡◌, refl}
use native.Mathlib.Nat.{mul-le-mul_right, mul-le-mul_left, div-mul-le_self, lt-div-mul-add, add-mul-div_right, not-suc-le-zero}
use native.Mathlib.Decide.{dec_lt}
use native.Mathlib.Omega.{arith}
use Rattle.theory.specs.Work.{jobs, uncapped, workload, ceil_div}

-- more whole periods outweigh any rest; in as many, the rest decides
lex : (q r q' r' x : ℕ) → Dec (q < q') → q ≤ q' → (q ≡ q' → r ≤ r') → q * x + min x r ≤ q' * x + min x r'
lex q r q' r' x (yes l) h k = omega (arith, mul-le-mul_right x l)
lex q r q' r' x (no n) h k =
    let e : q ≡ q' = omega arith in
    let l : r ≤ r' = k e in
    rw e (omega arith)

-- q whole periods T in a, q' whole periods T' in a'
pub le_quot : (q q' T T' a a' : ℕ) → q * T ≤ a → a' < q' * T' + T' → T' ≤ T → a ≤ a' → Dec (q' < q) → q ≤ q'
le_quot q q' T T' a a' l l' hT ha (yes m) = absurd (omega (arith, mul-le-mul_right T' m, mul-le-mul_left q hT))
le_quot q q' T T' a a' l l' hT ha (no m) = omega arith

-- never less for a longer a and a shorter period
pub jobs_rise : {T T' : ℕ} (x : ℕ) {a a' : ℕ} → 0 < T' → T' ≤ T → a ≤ a' → jobs T x a ≤ jobs T' x a'
unfolding jobs
jobs_rise {T} {T'} x {a} {a'} pos hT ha =
    let q = a / T in
    let q' = a' / T' in
    let l : q ≤ q' = le_quot q q' T T' a a' (div-mul-le_self a T) (lt-div-mul-add pos) hT ha (dec_lt q' q) in
    lex q (a - q * T) q' (a' - q' * T') x (dec_lt q q') l
    (λ e. let m = mul-le-mul_left q hT in let g : q * T' ≡ q' * T' = rw e in omega arith)

-- never less for a longer t and a shorter period: document 01's workload, and the one that is read
pub uncapped_rises : (T T' D t t' x : ℕ) → 0 < T' → T' ≤ T → t ≤ t' → uncapped T D t x ≤ uncapped T' D t' x
unfolding uncapped
uncapped_rises T T' D zero t' x pos hT ht = zero-le
uncapped_rises T T' D (suc t) zero x pos hT ht = absurd (not-suc-le-zero ht)
uncapped_rises T T' D (suc t) (suc t') x pos hT ht = jobs_rise x pos hT (omega arith)

pub workload_rises : (T T' D t t' x : ℕ) → 0 < T' → T' ≤ T → t ≤ t' → workload T D t x ≤ workload T' D t' x
unfolding workload
workload_rises T T' D t t' x pos hT ht = omega (arith, uncapped_rises T T' D t t' x pos hT ht)

-- no more than t in a window of t, and never more than by document 01
pub workload_window : (T D t x : ℕ) → workload T D t x ≤ t
unfolding workload
workload_window T D t x = omega arith

pub workload_less : (T D t x : ℕ) → workload T D t x ≤ uncapped T D t x
unfolding workload
workload_less T D t x = omega arith

-- no units, no workload
pub workload_none : (T D t : ℕ) → workload T D t 0 ≡ 0
unfolding workload uncapped jobs
workload_none T D zero = refl
workload_none T D (suc t) = omega arith

-- q is at most n / m rounded up, q' at least n' / m'
le_ceil : (q q' m m' n n' : ℕ) → q * m ≤ n + (m - 1) → n' + (m' - 1) < q' * m' + m' → 0 < m' → m' ≤ m → n ≤ n'
    → Dec (q' < q) → q ≤ q'
le_ceil q q' m m' n n' l l' pos hm hn (yes k) = absurd (omega (arith, mul-le-mul_right m k, mul-le-mul_left q' hm))
le_ceil q q' m m' n n' l l' pos hm hn (no k) = omega arith

pub ceil_div_rises : (m m' n n' : ℕ) → 0 < m' → m' ≤ m → n ≤ n' → ceil_div n m ≤ ceil_div n' m'
unfolding ceil_div
ceil_div_rises m m' n n' pos hm hn =
    le_ceil _ _ m m' n n' (div-mul-le_self (n + (m - 1)) m) (lt-div-mul-add pos) pos hm hn (dec_lt _ _)

-- a multiple of m may be added before the division, or its quotient after
pub ceil_div_whole : (m x n : ℕ) → 0 < m → ceil_div (n + x * m) m ≡ ceil_div n m + x
unfolding ceil_div
ceil_div_whole m x n pos =
    let e : n + x * m + (m - 1) ≡ n + (m - 1) + x * m = omega arith in
    rw e (add-mul-div_right (n + (m - 1)) x pos)
