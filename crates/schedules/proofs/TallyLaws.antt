-- Counting: tests that no two indices pass alike, and units by the lock that they need.
-- Assumes nothing.
use Prim.Native.Nat.{ℕ, zero, suc, ◌+◌, ◌-◌, ◌≤◌, ◌<◌, min, zero-le}
use mathlib.Core.Path.{◌≡◌, refl, sym, subst, ◌∙◌}
use mathlib.Core.Bool.{Bool, true, false, not, ◌&&◌, ◌||◌}
use native.Mathlib.Nat.{le_refl, le_trans}
use native.Mathlib.Omega.{arith}
use borrow.Author.Tests.{eq-eqb, ne_eqb, eqb-true, leb-true, ltb-true}
use lib.Dec.{eqb, leb, ltb}
use Rattle.basics.specs.Choice.{only}
use Rattle.basics.specs.Over.{sum_to, count_to}
use Rattle.basics.proofs.ChoiceLaws.{and_true, only_le}
use Rattle.basics.proofs.SumLaws.{sum_le, sum_part, sum_bound, sum_add}
use Rattle.basics.proofs.CountLaws.{sum_swap, count_alone}

-- pigeonhole: the indices that pass have values below i, no two the same
pub count_into : (n i : ℕ) (q : ℕ → Bool) (f : ℕ → ℕ) → ((h : ℕ) → h < n → q h ≡ true → f h < i)
    → ((h g : ℕ) → h < n → g < n → q h ≡ true → q g ≡ true → f h ≡ f g → h ≡ g) → count_to n q ≤ i
count_into n i q f below apart =
    le_trans (sum_le n (λ h. only (q h) 1) (λ h. sum_to i (λ p. only (q h && eqb (f h) p) 1)) (λ h l. put h l (q h) refl))
    (subst (λ (w : ℕ). w ≤ i) (sym (sum_swap n i (λ h p. only (q h && eqb (f h) p) 1)))
    (let b = sum_bound i 1 (λ p. count_to n (λ h. q h && eqb (f h) p)) (λ p l. count_alone n (λ h. q h && eqb (f h) p) (same p)) in omega arith))
  where
    put : (h : ℕ) → h < n → (b : Bool) → q h ≡ b → only b 1 ≤ sum_to i (λ p. only (b && eqb (f h) p) 1)
    put h l true e =
        let s = sum_part i (f h) (λ p. only (eqb (f h) p) 1) (below h l e) in
        let z : only (eqb (f h) (f h)) 1 ≡ 1 = rw (eq-eqb (f h) (f h) refl) in
        omega arith
    put h l false e = zero-le

    same : (p h g : ℕ) → h < n → g < n → (q h && eqb (f h) p) ≡ true → (q g && eqb (f g) p) ≡ true → h ≡ g
    same p h g l m d e =
        let a = and_true (q h) (eqb (f h) p) d in
        let b = and_true (q g) (eqb (f g) p) e in
        let x = eqb-true (f h) p a.1 in
        let y = eqb-true (f g) p b.1 in
        apart h g l m a.0 b.0 (x ∙ sym y)

-- ---- by locks: 0 is none, suc k is the resource at slot k

pub among : (ℕ → Bool) → ℕ → Bool
among w zero = false
among w (suc k) = w k

pub among_suc : (w : ℕ → Bool) (k : ℕ) → among w (suc k) ≡ w k
unfolding among
among_suc w k = refl

by_lock : (M : ℕ) (w : ℕ → Bool) (x : ℕ) → x ≤ M → only (among w x) 1 ≤ sum_to M (λ k. only (w k) (only (eqb x (suc k)) 1))
unfolding among
by_lock M w zero h = zero-le
by_lock M w (suc k) h =
    let s = sum_part M k (λ p. only (w p) (only (eqb (suc k) (suc p)) 1)) h in
    let z : only (w k) (only (eqb (suc k) (suc k)) 1) ≡ only (w k) 1 = rw (eq-eqb (suc k) (suc k) refl) in
    omega arith

pub only_sum : (n : ℕ) (b : Bool) (g : ℕ → ℕ) → sum_to n (λ u. only b (g u)) ≤ only b (sum_to n g)
only_sum n true g = le_refl _
only_sum n false g = let b = sum_bound n 0 (λ u. 0) (λ k l. le_refl 0) in omega arith

pub count_among : (n M : ℕ) (w : ℕ → Bool) (f : ℕ → ℕ) (ct : ℕ → ℕ) → ((u : ℕ) → u < n → f u ≤ M)
    → ((k : ℕ) → k < M → count_to n (λ u. eqb (f u) (suc k)) ≤ ct k) → count_to n (λ u. among w (f u)) ≤ sum_to M (λ k. only (w k) (ct k))
count_among n M w f ct known most =
    le_trans (sum_le n (λ u. only (among w (f u)) 1) (λ u. sum_to M (λ k. only (w k) (only (eqb (f u) (suc k)) 1))) (λ u l. by_lock M w (f u) (known u l)))
    (subst (λ (x : ℕ). x ≤ sum_to M (λ k. only (w k) (ct k))) (sym (sum_swap n M (λ u k. only (w k) (only (eqb (f u) (suc k)) 1))))
    (sum_le M (λ k. sum_to n (λ u. only (w k) (only (eqb (f u) (suc k)) 1))) (λ k. only (w k) (ct k))
    (λ k l. le_trans (only_sum n (w k) (λ u. only (eqb (f u) (suc k)) 1)) (only_le (w k) (w k) _ _ refl (most k l)))))

-- ---- by rank: of the indices that pass, those with so many before them

pub rank_mid : (n a b : ℕ) (p : ℕ → Bool) → count_to n (λ u. p u && (leb a (count_to u p) && ltb (count_to u p) b)) ≤ min b (count_to n p) - a
unfolding sum_to
rank_mid zero a b p = zero-le
rank_mid (suc n) a b p = go (p n) (leb a (count_to n p)) refl (ltb (count_to n p) b) refl (rank_mid n a b p)
  where
    go : (c d : Bool) → leb a (count_to n p) ≡ d → (e : Bool) → ltb (count_to n p) b ≡ e
        → count_to n (λ u. p u && (leb a (count_to u p) && ltb (count_to u p) b)) ≤ min b (count_to n p) - a
        → count_to n (λ u. p u && (leb a (count_to u p) && ltb (count_to u p) b)) + only (c && (d && e)) 1 ≤ min b (count_to n p + only c 1) - a
    go true true x true y i = omega (arith, leb-true a (count_to n p) x, ltb-true (count_to n p) b y)
    go true true x false y i = omega arith
    go true false x e y i = omega arith
    go false d x e y i = omega arith

pub rank_low : (n b : ℕ) (p : ℕ → Bool) → count_to n (λ u. p u && ltb (count_to u p) b) ≤ min b (count_to n p)
unfolding sum_to
rank_low zero b p = zero-le
rank_low (suc n) b p = go (p n) (ltb (count_to n p) b) refl (rank_low n b p)
  where
    go : (c e : Bool) → ltb (count_to n p) b ≡ e → count_to n (λ u. p u && ltb (count_to u p) b) ≤ min b (count_to n p)
        → count_to n (λ u. p u && ltb (count_to u p) b) + only (c && e) 1 ≤ min b (count_to n p + only c 1)
    go true true y i = omega (arith, ltb-true (count_to n p) b y)
    go true false y i = omega arith
    go false e y i = omega arith

pub rank_high : (n a : ℕ) (p : ℕ → Bool) → count_to n (λ u. p u && leb a (count_to u p)) ≤ count_to n p - a
unfolding sum_to
rank_high zero a p = zero-le
rank_high (suc n) a p = go (p n) (leb a (count_to n p)) refl (rank_high n a p)
  where
    go : (c e : Bool) → leb a (count_to n p) ≡ e → count_to n (λ u. p u && leb a (count_to u p)) ≤ count_to n p - a
        → count_to n (λ u. p u && leb a (count_to u p)) + only (c && e) 1 ≤ count_to n p + only c 1 - a
    go true true y i = omega (arith, leb-true a (count_to n p) y)
    go true false y i = omega arith
    go false e y i = omega arith

pub count_or : (n : ℕ) (p q : ℕ → Bool) → count_to n (λ u. p u || q u) ≤ count_to n p + count_to n q
count_or n p q =
    let a = sum_le n (λ u. only (p u || q u) 1) (λ u. only (p u) 1 + only (q u) 1) (λ u l. go (p u) (q u)) in
    omega (arith, sum_add n (λ u. only (p u) 1) (λ u. only (q u) 1))
  where
    go : (a b : Bool) → only (a || b) 1 ≤ only a 1 + only b 1
    go true b = omega arith
    go false b = omega arith

-- a lock is used, or not, or there is none
pub count_parts : (n : ℕ) (w : ℕ → Bool) (f : ℕ → ℕ)
    → count_to n (λ u. among w (f u)) + count_to n (λ u. among (λ k. not (w k)) (f u)) + count_to n (λ u. eqb (f u) 0) ≤ n
unfolding among
count_parts n w f =
    let a = sum_bound n 1 (λ u. only (among w (f u)) 1 + only (among (λ k. not (w k)) (f u)) 1 + only (eqb (f u) 0) 1) (λ u l. go (f u)) in
    let b = sum_add n (λ u. only (among w (f u)) 1) (λ u. only (among (λ k. not (w k)) (f u)) 1) in
    let c = sum_add n (λ u. only (among w (f u)) 1 + only (among (λ k. not (w k)) (f u)) 1) (λ u. only (eqb (f u) 0) 1) in
    omega arith
  where
    two : (b : Bool) → only b 1 + only (not b) 1 ≤ 1
    two true = le_refl 1
    two false = le_refl 1

    go : (x : ℕ) → only (among w x) 1 + only (among (λ k. not (w k)) x) 1 + only (eqb x 0) 1 ≤ 1
    go zero = omega arith
    go (suc k) = rw (ne_eqb (suc k) 0 (λ e. omega arith)) (omega (arith, two (w k)))
