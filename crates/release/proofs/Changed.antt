-- A law of the sum: one byte changed changes the check. A pair changes by at most 255 × 256, which is less than the 65,535 that the sum forgets.
-- Assumes nothing.
use Prim.Native.Nat.{ℕ, zero, suc, ◌+◌, ◌-◌, ◌*◌, ◌/◌, ◌≤◌, ◌<◌}
use mathlib.Core.Path.{◌≡◌, refl}
use mathlib.Core.Bool.{Bool, true, false}
use mathlib.Core.Logic.{◌⊎◌, inl, inr}
use mathlib.Core.List.{List}
use native.Mathlib.Omega.{arith}
use native.Mathlib.Decide.{ℕ_discrete, dec_lt}
use borrow.Author.Tests.{leb-true, leb-false}
use lib.Dec.{leb}
use lib.ListN.{length, set, length-set}
use lib.Seq.{get_or-set_same, get_or-set_other}
use Rattle.basics.specs.Choice.{pick}
use Rattle.basics.specs.Over.{sum_to}
use Rattle.basics.proofs.SumLaws.{sum_one}
use Rattle.checksum.specs.Sum.{word_at, ones_plus, ones_sum, pairs_of, check_of}
use Rattle.block.specs.Numbers.{byte_at}
use Rattle.release.specs.Undo.{Bytes}

-- ---- the ones' complement sum is the sum, less some times 65,535

pub plus_part : (x y : ℕ) → (c : ℕ) × (x + y ≡ ones_plus x y + 65_535 * c) × (x ≤ 65_535 → y ≤ 65_535 → ones_plus x y ≤ 65_535)
unfolding ones_plus
plus_part x y = go (leb (x + y) 65_535) refl
  where
    go : (b : Bool) → leb (x + y) 65_535 ≡ b
        → (c : ℕ) × (x + y ≡ pick b (x + y) (x + y - 65_535) + 65_535 * c) × (x ≤ 65_535 → y ≤ 65_535 → pick b (x + y) (x + y - 65_535) ≤ 65_535)
    go true e = (0, omega arith, λ h l. leb-true _ _ e)
    go false e = let z : 65_535 < x + y = leb-false _ _ e in (1, omega arith, λ h l. omega arith)

sum_part : (n : ℕ) (s : List ℕ) → (c : ℕ) × (sum_to n (word_at s) ≡ ones_sum n s + 65_535 * c)
unfolding sum_to ones_sum
sum_part zero s = (0, omega arith)
sum_part (suc n) s =
    let p = sum_part n s in
    let q = plus_part (ones_sum n s) (word_at s n) in
    (p.0 + q.0, omega (arith, p.1, q.1))

word_most : (s : List ℕ) → Bytes s → (k : ℕ) → word_at s k ≤ 65_535
unfolding word_at
word_most s bytes k = omega (arith, bytes (2 * k), bytes (2 * k + 1))

sum_most : (n : ℕ) (s : List ℕ) → Bytes s → ones_sum n s ≤ 65_535
unfolding ones_sum
sum_most zero s bytes = omega arith
sum_most (suc n) s bytes = (plus_part (ones_sum n s) (word_at s n)).2 (sum_most n s bytes) (word_most s bytes n)

-- ---- one byte changed

-- numbers below 65,535 that differ by some times 65,535 are equal
rests : (c d x y : ℕ) → x < 65_535 → y < 65_535 → 65_535 * c + x ≡ 65_535 * d + y → x ≡ y
rests c d x y h l e = go (dec_lt c d) (dec_lt d c)
  where
    go : Dec (c < d) → Dec (d < c) → x ≡ y
    go (yes p) q = absurd (omega arith)
    go (no p) (yes q) = absurd (omega arith)
    go (no p) (no q) = let f : c ≡ d = omega arith in omega arith

module _ (s : List ℕ) (j v : ℕ) (bytes : Bytes s) (h : j < length s) (l : v < 256) where
  pub set_bytes : Bytes (set s j v)
  set_bytes i = go (ℕ_discrete i j)
    where
      go : Dec (i ≡ j) → byte_at (set s j v) i < 256
      go (yes e) = rw (e, get_or-set_same s j v 0 h) l
      go (no d) = rw (get_or-set_other s j i v 0 d) (bytes i)

  -- the other pairs stay
  word_same : (i : ℕ) → (i ≡ j / 2 → ⊥) → word_at s i ≡ word_at (set s j v) i
  unfolding word_at
  word_same i d = rw (get_or-set_other s j (2 * i) v 0 (λ e. d (omega arith)), get_or-set_other s j (2 * i + 1) v 0 (λ e. d (omega arith)))

  -- and its own changes by the byte, in the higher or in the lower place
  word_moved : (word_at (set s j v) (j / 2) + 256 * byte_at s j ≡ word_at s (j / 2) + 256 * v) ⊎ (word_at (set s j v) (j / 2) + byte_at s j ≡ word_at s (j / 2) + v)
  unfolding word_at
  word_moved = go (ℕ_discrete (2 * (j / 2)) j)
    where
      new : byte_at (set s j v) j ≡ v
      new = get_or-set_same s j v 0 h

      go : Dec (2 * (j / 2) ≡ j)
          → (byte_at (set s j v) (2 * (j / 2)) * 256 + byte_at (set s j v) (2 * (j / 2) + 1) + 256 * byte_at s j ≡ byte_at s (2 * (j / 2)) * 256 + byte_at s (2 * (j / 2) + 1) + 256 * v)
          ⊎ (byte_at (set s j v) (2 * (j / 2)) * 256 + byte_at (set s j v) (2 * (j / 2) + 1) + byte_at s j ≡ byte_at s (2 * (j / 2)) * 256 + byte_at s (2 * (j / 2) + 1) + v)
      go (yes e) = inl (rw (e, new, get_or-set_other s j (j + 1) v 0 (λ q. omega arith)) (omega arith))
      go (no d) =
          let e : 2 * (j / 2) + 1 ≡ j = omega arith in
          inr (rw (e, new, get_or-set_other s j (2 * (j / 2)) v 0 d) (omega arith))

  pub check_changes : (v ≡ byte_at s j → ⊥) → check_of (set s j v) ≡ check_of s → ⊥
  unfolding check_of
  check_changes ne e = ne (go word_moved)
    where
      n : ℕ
      n = pairs_of s

      same_sum : ones_sum n (set s j v) ≡ ones_sum n s
      same_sum =
          let f : 65_535 - ones_sum n (set s j v) ≡ 65_535 - ones_sum n s = rw (length-set s j v) at e in
          omega (arith, f, sum_most n s bytes, sum_most n (set s j v) set_bytes)

      moved : sum_to n (word_at (set s j v)) + word_at s (j / 2) ≡ sum_to n (word_at s) + word_at (set s j v) (j / 2)
      moved = sum_one n (j / 2) (word_at s) (word_at (set s j v)) (omega arith) word_same

      go : (word_at (set s j v) (j / 2) + 256 * byte_at s j ≡ word_at s (j / 2) + 256 * v) ⊎ (word_at (set s j v) (j / 2) + byte_at s j ≡ word_at s (j / 2) + v) → v ≡ byte_at s j
      go (inl w) =
          let q = rests (sum_part n s).0 (sum_part n (set s j v)).0 (256 * v) (256 * byte_at s j) (omega (arith, bytes j)) (omega (arith, bytes j))
          (omega (arith, w, moved, same_sum, (sum_part n s).1, (sum_part n (set s j v)).1)) in
          omega arith
      go (inr w) =
          rests (sum_part n s).0 (sum_part n (set s j v)).0 v (byte_at s j) (omega arith) (omega (arith, bytes j))
          (omega (arith, w, moved, same_sum, (sum_part n s).1, (sum_part n (set s j v)).1))
