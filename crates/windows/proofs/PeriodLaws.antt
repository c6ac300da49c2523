-- Jobs released T apart, each with at most x units in a window: together at most the workload.
-- Assumes nothing.
use Prim.Native.Nat.{ℕ, zero, suc, ◌+◌, ◌-◌, ◌*◌, ◌/◌, ◌≤◌, ◌<◌, min, zero-le}
use mathlib.Core.Path.{◌≡◌, subst}
use native.Mathlib.Nat.{mul-add-div_right, div-eq_of_lt, div-mul-le_self, lt-div-mul-add}
use native.Mathlib.Decide.{dec_lt, ℕ_discrete}
use native.Mathlib.Omega.{arith}
use Rattle.basics.specs.Over.{sum_to}
use Rattle.basics.proofs.SumLaws.{sum_first}
use Rattle.theory.specs.Work.{jobs}

-- ---- jobs T x a, by whole periods and the rest

jobs_at : (T x q r : ℕ) → r < T → jobs T x (q * T + r) ≡ q * x + min x r
unfolding jobs
jobs_at T x q r h =
    let pos : 0 < T = omega arith in
    let e : (q * T + r) / T ≡ q = rw (mul-add-div_right pos q r, div-eq_of_lt h) (omega arith) in
    rw e (omega arith)

pub record Parted (T a : ℕ) : Type 0 where
  pub q : ℕ
  pub r : ℕ
  pub small : r < T
  pub sum : a ≡ q * T + r

parted : (T a : ℕ) → 0 < T → Parted T a
parted T a pos =
    let l = div-mul-le_self a T in
    let m : a < a / T * T + T = lt-div-mul-add pos in
    record { q = a / T; r = a - a / T * T; small = omega arith; sum = omega arith }

jobs_short : (T x a : ℕ) → a < T → jobs T x a ≡ min x a
jobs_short T x a h =
    let z : 0 * T + a ≡ a = omega arith in
    let e : jobs T x a ≡ 0 * x + min x a = subst (λ (b : ℕ). jobs T x b ≡ 0 * x + min x a) z (jobs_at T x 0 a h) in
    omega arith

jobs_period : (T x a : ℕ) → 0 < T → jobs T x (a + T) ≡ x + jobs T x a
jobs_period T x a pos = let p = parted T a pos in go p.q p.r p.small p.sum
  where
    go : (q r : ℕ) → r < T → a ≡ q * T + r → jobs T x (a + T) ≡ x + jobs T x a
    go q r s e =
        let f = jobs_at T x q r s in
        let g = jobs_at T x (suc q) r s in
        let u : a + T ≡ suc q * T + r = omega arith in
        rw (u, e) (omega arith)

-- one more, and it is no less and at most one more
jobs_next : (T x a : ℕ) → 0 < T → x ≤ T → (jobs T x a ≤ jobs T x (suc a)) × (jobs T x (suc a) ≤ suc (jobs T x a))
jobs_next T x a pos h =
    let p = parted T a pos in
    go p.q p.r p.small p.sum (ℕ_discrete (suc p.r) T)
  where
    go : (q r : ℕ) → r < T → a ≡ q * T + r → Dec (suc r ≡ T) → (jobs T x a ≤ jobs T x (suc a)) × (jobs T x (suc a) ≤ suc (jobs T x a))
    go q r s e (yes d) =
        let f = jobs_at T x q r s in
        let g = jobs_at T x (suc q) 0 pos in
        let u : suc a ≡ suc q * T + 0 = omega arith in
        rw (u, e) (omega arith, omega arith)
    go q r s e (no d) =
        let f = jobs_at T x q r s in
        let g = jobs_at T x q (suc r) (omega arith) in
        let u : suc a ≡ q * T + suc r = omega arith in
        rw (u, e) (omega arith, omega arith)

jobs_more : (T x a d : ℕ) → 0 < T → x ≤ T → (jobs T x a ≤ jobs T x (a + d)) × (jobs T x (a + d) ≤ jobs T x a + d)
jobs_more T x a zero pos h = let z : a + 0 ≡ a = omega arith in rw z (omega arith, omega arith)
jobs_more T x a (suc d) pos h =
    let i = jobs_more T x a d pos h in
    let n = jobs_next T x (a + d) pos h in
    let z : a + suc d ≡ suc (a + d) = omega arith in
    rw z (omega arith, omega arith)

-- ---- several jobs

-- jobs from s on, T apart: up to E, whole periods and a rest
tail : (T x : ℕ) → 0 < T → x ≤ T → (k s E : ℕ) (r y : ℕ → ℕ) → s ≤ r 0 → ((j : ℕ) → r j + T ≤ r (suc j))
    → ((j : ℕ) → y j ≤ x) → ((j : ℕ) → y j ≤ E - r j) → sum_to k y ≤ jobs T x (E - s)
unfolding sum_to
tail T x pos h zero s E r y l a b c = zero-le
tail T x pos h (suc k) s E r y l a b c =
    let i = tail T x pos h k (s + T) E (λ j. r (suc j)) (λ j. y (suc j)) (omega (arith, a 0)) (λ j. a (suc j)) (λ j. b (suc j)) (λ j. c (suc j)) in
    rw (sum_first k y) (go i (dec_lt E (s + T)))
  where
    go : sum_to k (λ j. y (suc j)) ≤ jobs T x (E - (s + T)) → Dec (E < s + T) → y 0 + sum_to k (λ j. y (suc j)) ≤ jobs T x (E - s)
    go i (yes d) =
        let z : E - (s + T) ≡ 0 = omega arith in
        let i' : sum_to k (λ j. y (suc j)) ≤ jobs T x 0 = subst (λ (b : ℕ). sum_to k (λ j. y (suc j)) ≤ jobs T x b) z i in
        omega (arith, jobs_short T x 0 pos, jobs_short T x (E - s) (omega arith), b 0, c 0)
    go i (no d) =
        let e : E - s ≡ E - (s + T) + T = omega arith in
        rw e (omega (arith, jobs_period T x (E - (s + T)) pos, b 0))

-- the first job ends at most u after the window's start, the others are released T apart after it
crossing : (T x b u t y rest : ℕ) → 0 < T → x ≤ T → t + x ≤ b → y ≤ x → y ≤ u → y ≤ t → rest ≤ jobs T x (b - u - T) → y + rest ≤ jobs T x (b - x)
crossing T x b u t y rest pos h k hx hu ht i = go (dec_lt (b - x) T) (dec_lt u x) (dec_lt (b - u) T)
  where
    go : Dec (b - x < T) → Dec (u < x) → Dec (b - u < T) → y + rest ≤ jobs T x (b - x)
    go (yes d) e (yes f) =
        let z : b - u - T ≡ 0 = omega arith in
        let i' : rest ≤ jobs T x 0 = subst (λ (w : ℕ). rest ≤ jobs T x w) z i in
        omega (arith, jobs_short T x 0 pos, jobs_short T x (b - x) d)
    go (yes d) (yes e) (no f) = omega (arith, jobs_short T x (b - u - T) (omega arith), jobs_short T x (b - x) d)
    go (yes d) (no e) (no f) = absurd (omega arith)
    go (no d) (yes e) f =
        let g : b - x ≡ b - x - T + T = omega arith in
        let v : b - u - T ≡ b - x - T + (x - u) = omega arith in
        let i' : rest ≤ jobs T x (b - x - T + (x - u)) = subst (λ (w : ℕ). rest ≤ jobs T x w) v i in
        let m = jobs_more T x (b - x - T) (x - u) pos h in
        rw g (omega (arith, jobs_period T x (b - x - T) pos))
    go (no d) (no e) f =
        let g : b - x ≡ b - x - T + T = omega arith in
        let m = jobs_more T x (b - u - T) (b - x - T - (b - u - T)) pos h in
        let v : b - u - T + (b - x - T - (b - u - T)) ≡ b - x - T = omega arith in
        let m' : jobs T x (b - u - T) ≤ jobs T x (b - x - T) = subst (λ (w : ℕ). jobs T x (b - u - T) ≤ jobs T x w) v m.0 in
        rw g (omega (arith, jobs_period T x (b - x - T) pos))

-- what each of the jobs has in the window of t from A on
pub record Portions (T D x A t : ℕ) (r y : ℕ → ℕ) : Type 0 where
  pub apart : (j : ℕ) → r j + T ≤ r (suc j)
  pub most : (j : ℕ) → y j ≤ x
  pub window : (j : ℕ) → y j ≤ t
  pub before : (j : ℕ) → y j ≤ A + t - r j
  pub after : (j : ℕ) → y j ≤ r j + D - A

pub portions_sum : (T D x A t : ℕ) → 0 < T → x ≤ D → D ≤ T → (k : ℕ) (r y : ℕ → ℕ) → Portions T D x A t r y → sum_to k y ≤ jobs T x (t + D - x)
unfolding sum_to
portions_sum T D x A t pos hx hD zero r y c = zero-le
portions_sum T D x A t pos hx hD (suc k) r y c =
    let i = portions_sum T D x A t pos hx hD k (λ j. r (suc j)) (λ j. y (suc j))
    (record { apart = λ j. c.apart (suc j); most = λ j. c.most (suc j); window = λ j. c.window (suc j); before = λ j. c.before (suc j); after = λ j. c.after (suc j) }) in
    rw (sum_first k y) (go i (dec_lt 0 (y 0)))
  where
    go : sum_to k (λ j. y (suc j)) ≤ jobs T x (t + D - x) → Dec (0 < y 0) → y 0 + sum_to k (λ j. y (suc j)) ≤ jobs T x (t + D - x)
    go i (no d) = omega arith
    go i (yes d) =
        let l = tail T x pos (omega arith) k (r 0 + T) (A + t) (λ j. r (suc j)) (λ j. y (suc j)) (c.apart 0) (λ j. c.apart (suc j)) (λ j. c.most (suc j)) (λ j. c.before (suc j)) in
        let e : A + t - (r 0 + T) ≡ t + D - (r 0 + D - A) - T = omega (arith, c.after 0) in
        crossing T x (t + D) (r 0 + D - A) t (y 0) (sum_to k (λ j. y (suc j))) pos (omega arith) (omega arith) (c.most 0) (c.after 0) (c.window 0)
        (subst (λ (w : ℕ). sum_to k (λ j. y (suc j)) ≤ jobs T x w) e l)
