-- The sum, pair by pair.
-- Assumes nothing.
use Prim.Native.Nat.{ℕ, zero, suc, ◌<◌, ◌+◌, ◌-◌, ◌*◌, ◌/◌}
use mathlib.Core.Path.{◌≡◌, refl, ◌∙◌}
use mathlib.Core.List.{List, [], ◌∷◌}
use native.Mathlib.Omega.{arith}
use native.Mathlib.Numerals.{add-one}
use lib.ListN.{length, get_or, take, drop, get_or-eq_default}
use Rattle.std.proofs.lemmas.List.{get_or-drop}
use Rattle.std.specs.Simd.{first_chunks}
use Rattle.checksum.specs.Sum.{word_at, ones_plus, ones_sum, pairs_of, check_of}

pub sum_none : (s : List ℕ) → 0 ≡ ones_sum 0 s
unfolding ones_sum
sum_none s = refl

-- one pair more
pub sum_more : (k : ℕ) (s : List ℕ) {x w : ℕ} → x ≡ ones_sum k s → w ≡ get_or s (2 * k) 0 * 256 + get_or s (2 * k + 1) 0 → ones_plus x w ≡ ones_sum (k + 1) s
unfolding ones_sum word_at
sum_more k s e f = rw (add-one, e, f)

-- the two bytes of a pair
pair_at : (m k : ℕ) (s : List ℕ) → k < m → let p = get_or (first_chunks 2 m s) k [] in (get_or p 0 0 ≡ get_or s (2 * k) 0) × (get_or p 1 0 ≡ get_or s (2 * k + 1) 0)
pair_at zero k s h = absurd (omega arith)
pair_at (suc m) zero s h = first s
  where
    first : (s : List ℕ) → (get_or (take 2 s) 0 0 ≡ get_or s 0 0) × (get_or (take 2 s) 1 0 ≡ get_or s 1 0)
    first [] = (refl, refl)
    first (x ∷ []) = (refl, refl)
    first (x ∷ y ∷ s) = (refl, refl)
pair_at (suc m) (suc k) s h =
    let r = pair_at m k (drop 2 s) (omega arith) in
    let e : 2 * suc k ≡ 2 + 2 * k = omega arith in
    let f : 2 * suc k + 1 ≡ 2 + (2 * k + 1) = omega arith in
    (r.0 ∙ rw (e, get_or-drop), r.1 ∙ rw (f, get_or-drop))

pub sum_pair : (k : ℕ) (s : List ℕ) {pairs : List (List ℕ)} {m x w : ℕ} → pairs ≡ first_chunks 2 m s → k < m → x ≡ ones_sum k s
    → w ≡ get_or (get_or pairs k []) 0 0 * 256 + get_or (get_or pairs k []) 1 0 → ones_plus x w ≡ ones_sum (k + 1) s
sum_pair k s {m = m} p h e f = let at = pair_at m k s h in sum_more k s e (rw (p, at.0, at.1) at f)

-- of an odd number of bytes the last has none after it
pub sum_last : (k : ℕ) (s : List ℕ) {rest : List ℕ} {x w : ℕ} → length s ≡ 2 * k + 1 → rest ≡ drop (length s / 2 * 2) s → x ≡ ones_sum k s → w ≡ get_or rest 0 0 * 256 + 0
    → ones_plus x w ≡ ones_sum (k + 1) s
sum_last k s h r e f =
    let d : length s / 2 * 2 + 0 ≡ 2 * k = omega arith in
    sum_more k s e ((rw (r, get_or-drop, d) at f) ∙ rw (get_or-eq_default s 0 {n = 2 * k + 1} (omega arith)))

pub check_is : (n : ℕ) (s : List ℕ) {x : ℕ} → n ≡ pairs_of s → x ≡ ones_sum n s → 65535 - x ≡ check_of s
unfolding check_of
check_is n s e f = rw (f, e)
