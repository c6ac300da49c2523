-- The bound is the only one, it exists where a length covers its demand, and it is kept by a smaller demand: for any demand. And what the rounds know of it, for any
-- demand that never falls.
-- Assumes nothing.
use Prim.Native.Nat.{ℕ, zero, suc, ◌≤◌, ◌<◌}
use mathlib.Core.Path.{◌≡◌, subst}
use mathlib.Core.Bool.{Bool, true, false}
use native.Mathlib.Nat.{le_antisymm, le_trans, not-suc-le-zero}
use native.Mathlib.Decide.{dec_lt}
use native.Mathlib.Omega.{arith}
use borrow.Author.Tests.{leb-true, le-leb}
use lib.Dec.{T, leb}
use Rattle.basics.specs.Over.{first_to}
use Rattle.basics.proofs.FirstIndexLaws.{First, first_is}
use Rattle.theory.specs.Bound.{Least, None}

-- f never falls
abbrev pub Rises : (ℕ → ℕ) → Type 0
Rises f = (s t : ℕ) → s ≤ t → f s ≤ f t

-- every answer is at least t: what the rounds know
abbrev pub From : (ℕ → ℕ) → ℕ → Type 0
From f t = (s : ℕ) → 1 ≤ s → f s ≤ s → t ≤ s

pub from_start : (f : ℕ → ℕ) (C : ℕ) → ((s : ℕ) → C ≤ f s) → From f C
from_start f C h s p k = le_trans (h s) k

pub from_step : (f : ℕ → ℕ) (t : ℕ) → Rises f → From f t → From f (f t)
from_step f t up h s p k = le_trans (up t s (h s p k)) k

pub past : (f : ℕ → ℕ) (D t : ℕ) → D < t → From f t → None f D
past f D t d h s p q k = let l : t ≤ s = h s p k in omega arith

-- one bound only, and none beside a miss
pub least_unique : (f : ℕ → ℕ) (D t s : ℕ) → Least f D t → Least f D s → t ≡ s
least_unique f D t s p q = le_antisymm (p.least s q.low q.meets) (q.least t p.low p.meets)

pub least_none : (f : ℕ → ℕ) (D t : ℕ) → Least f D t → None f D → ⊥
least_none f D t p q = q t p.low p.high p.meets

-- nothing is found before j, so every answer is at least j + 1
from_first : (f : ℕ → ℕ) (j : ℕ) → ((s : ℕ) → s < j → leb (f (suc s)) (suc s) ≡ false) → From f (suc j)
from_first f j h zero p k = absurd (not-suc-le-zero p)
from_first f j h (suc s) p k = go (dec_lt s j)
  where
    go : Dec (s < j) → suc j ≤ suc s
    go (yes l) = let z : ◌≡◌ {A = Bool} true false = cc (h s l, le-leb (f (suc s)) (suc s) k) in absurd (subst T z tt)
    go (no n) = omega arith

-- where a length covers its demand there is a least one that does
least_below : (f : ℕ → ℕ) (D t : ℕ) → 1 ≤ t → t ≤ D → f t ≤ t → (s : ℕ) × Least f D s × (s ≤ t)
least_below f D t p d k =
    let j = first_to D (λ s. leb (f (suc s)) (suc s)) in
    let w : First D (λ s. leb (f (suc s)) (suc s)) j = first_is D _ in
    let from : From f (suc j) = from_first f j w.clear in
    let l : suc j ≤ t = from t p k in
    (suc j, record { low = omega arith; high = omega arith; meets = leb-true _ _ (w.found (omega arith)); least = from }, l)

-- a demand that is nowhere larger: the bound of g is kept by f, and is no larger
pub keeps_bound : (f g : ℕ → ℕ) (D t : ℕ) → ((s : ℕ) → f s ≤ g s) → Least g D t → (s : ℕ) × Least f D s × (s ≤ t)
keeps_bound f g D t le q = least_below f D t q.low q.high (le_trans (le t) q.meets)
