-- `block::reading::zeros` meets its contract: the `|` of some bytes is 0 exactly if each of them is. Assumes nothing.
use Prim.Native.Nat.{ℕ, zero, suc, ◌+◌, ◌-◌, ◌≤◌}
use mathlib.Core.Path.{◌≡◌, refl, ◌∙◌}
use mathlib.Core.Bool.{◌&&◌}
use mathlib.Core.List.{List}
use native.Mathlib.Omega.{arith}
use native.Mathlib.Numerals.{add-one}
use native.Mathlib.Decide.{ℕ_discrete}
use borrow.Author.Tests.{ne_eqb}
use lib.Bits.{bit_or}
use lib.Dec.{eqb}
use lib.ListN.{get_or, length, take, drop, length-drop}
use lib.Seq.{get_or-drop}
use Rattle.std.specs.List.{fold}
use Rattle.std.proofs.lemmas.List.Sums.{fold_more}
use Rattle.std.proofs.lemmas.Nat.{or_disjoint, le_or_l}
use Rattle.basics.specs.Over.{all_to}
use Rattle.block.specs.Block.{zeros_at}
use Rattle.std.proofs.Common.{rules}
use Rattle.block.proofs.reading.zeros.Goals as goal

or_zero : (a b : ℕ) → eqb (bit_or a b) 0 ≡ (eqb a 0 && eqb b 0)
or_zero a b = go (ℕ_discrete a 0)
  where
    go : Dec (a ≡ 0) → eqb (bit_or a b) 0 ≡ (eqb a 0 && eqb b 0)
    go (yes e) = rw (e, or_disjoint 0 b refl)
    go (no d) = rw (ne_eqb a 0 d, ne_eqb (bit_or a b) 0 (λ e. omega (arith, le_or_l a b)))

zeros_to : (s : List ℕ) (at k : ℕ) → at + k ≤ length s → eqb (fold bit_or 0 (take k (drop at s))) 0 ≡ zeros_at s at k
unfolding all_to
zeros_to s at zero h = refl
zeros_to s at (suc k) h =
    rw (← add-one k, fold_more bit_or 0 (drop at s) k 0 (omega (arith, length-drop at s)), get_or-drop at s k 0)
    (or_zero (fold bit_or 0 (take k (drop at s))) (get_or s (at + k) 0) ∙ rw (zeros_to s at k (omega arith)))

-- `&s[at..at + k]`
zeros_part : (s : List ℕ) (at k : ℕ) → at + k ≤ length s → eqb (fold bit_or 0 (take (at + k - at) (drop at s))) 0 ≡ zeros_at s at k
zeros_part s at k h = let e : at + k - at ≡ k = omega arith in rw e (zeros_to s at k h)

pub returns : goal.returns
returns c =
    let a = c.args in
    let e : c.fold.result ≡ fold bit_or 0 (take (a.at + a.k - a.at) (drop a.at a.s.now)) = search rules in
    rw e (zeros_part a.s.now a.at a.k c.requires.0)
