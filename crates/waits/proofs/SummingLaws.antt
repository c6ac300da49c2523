-- The pass that sums the first A of those for another resource than the one at slot k.
-- Assumes nothing.
use Prim.Native.Nat.{ℕ, suc, ◌+◌, ◌-◌, ◌/◌, ◌%◌, ◌<◌, min}
use mathlib.Core.Path.{◌≡◌}
use mathlib.Core.List.{List, ◌∷◌}
use native.Mathlib.Numerals.{add-one}
use native.Mathlib.Omega.{arith}
use borrow.Author.Tests.{ne_eqb}
use lib.ListN.{get_or, take, drop, length-take}
use lib.Seq.{drop-cons, get_or-take}
use Rattle.basics.specs.Largest.{sum_of}
use Rattle.waits.specs.Kept.{key_slots, others_kept, sum_others, KeptRow}

-- `left` of those from i on are left to be added; they end at `end` where none of them is passed over, n being the end of all
pub record Going (kept : List ℕ) (n A k sum end i : ℕ) : Type 0 where
  pub left : ℕ
  pub summing : sum + sum_of (take left (others_kept k (drop i (take n kept)))) ≡ sum_others (take n kept) A k
  pub ends : end ≡ min (i + left) n

pub going_first : (kept : List ℕ) (n A k end : ℕ) → end ≡ min n A → Going kept n A k 0 end 0
going_first kept n A k end e = record { left = A; summing = omega arith; ends = omega arith }

module _ {kept : List ℕ} {n A k sum end i : ℕ} (r : KeptRow kept n) (g : Going kept n A k sum end i) where
  -- the number at i, and those behind it
  next : i < n → drop i (take n kept) ≡ get_or kept i 0 ∷ drop (i + 1) (take n kept)
  next h = rw (drop-cons (take n kept) i 0 (omega (arith, length-take n kept, r.long, r.few)), get_or-take n kept i 0 h, add-one)

  pub going_more : i < end → (get_or kept i 0 % key_slots ≡ k → ⊥) → (c : ℕ) → c ≡ get_or kept i 0 / key_slots → Going kept n A k (sum + c) end (i + 1)
  going_more h e c v =
      let f : g.left ≡ suc (g.left - 1) = omega (arith, g.ends) in
      let q : sum + (get_or kept i 0 / key_slots + sum_of (take (g.left - 1) (others_kept k (drop (i + 1) (take n kept))))) ≡ sum_others (take n kept) A k
      = rw (next (omega (arith, g.ends)), ne_eqb (get_or kept i 0 % key_slots) k e, f) at g.summing in
      record { left = g.left - 1; summing = omega arith; ends = omega (arith, g.ends) }
