-- The laws of a choice.
-- Assumes nothing.
use Prim.Native.Nat.{ℕ, ◌≤◌, ◌<◌}
use mathlib.Core.Path.{◌≡◌, refl, sym, ◌∙◌}
use mathlib.Core.Bool.{Bool, true, false, not, ◌&&◌, ◌||◌, and-false}
use native.Mathlib.Nat.{le_refl, not-suc-le-zero}
use native.Mathlib.Omega.{arith}
use borrow.Author.Tests.{leb-true, le-leb, lt-leb, not-true, not-false}
use lib.Dec.{leb}
use Rattle.basics.specs.Choice.{pick, only, within}

-- what a call's answer r, and the branch `if !r` on it, say of the test b that the callee's contract names
pub stops : {r b : Bool} → r ≡ b → not r ≡ true → b ≡ false
stops {r} e h = sym e ∙ not-true r h

pub passes : {r b : Bool} → r ≡ b → not r ≡ false → b ≡ true
passes {r} e h = sym e ∙ not-false r h

pub and_true : (a b : Bool) → (a && b) ≡ true → (a ≡ true) × (b ≡ true)
and_true true b e = (refl, e)
and_true false b e = (e, cc)

-- neither of two tests holds
pub or_neither : (a b : Bool) → (a || b) ≡ false → (a ≡ false) × (b ≡ false)
or_neither true b e = (e, cc)
or_neither false b e = (refl, e)

-- the first of a choice may be replaced by what it equals where the test holds
pub pick_when : {A : Type 0} {x y : A} (z : A) (b : Bool) → (b ≡ true → x ≡ y) → pick b x z ≡ pick b y z
pick_when z true h = h refl
pick_when z false h = refl

-- from low to high, as a test and as a fact
pub within_in : (low high x : ℕ) → low ≤ x → x ≤ high → within low high x ≡ true
within_in low high x l h = rw (le-leb low x l, le-leb x high h)

pub within_low : (low high x : ℕ) → x < low → within low high x ≡ false
within_low low high x l = rw (lt-leb low x l)

pub within_high : (low high x : ℕ) → high < x → within low high x ≡ false
within_high low high x h = rw (lt-leb x high h, and-false)

pub within_true : (low high x : ℕ) → within low high x ≡ true → (low ≤ x) × (x ≤ high)
within_true low high x e =
    let p = and_true (leb low x) (leb x high) e in
    (leb-true _ _ p.0, leb-true _ _ p.1)

pub only_below : (b : Bool) (x : ℕ) → only b x ≤ x
only_below true x = le_refl x
only_below false x = omega arith

-- by the same test, no larger where it is no larger
pub only_le : (b c : Bool) (x y : ℕ) → c ≡ b → x ≤ y → only b x ≤ only c y
only_le true c x y e h = rw e h
only_le false c x y e h = omega arith

-- by the same test, the same where it is the same when the test holds
pub only_when : (b : Bool) (x y : ℕ) → (b ≡ true → x ≡ y) → only b x ≡ only b y
only_when true x y e = e refl
only_when false x y e = refl

-- something only where the test holds
pub only_some : (b : Bool) (x : ℕ) → 1 ≤ only b x → (b ≡ true) × (1 ≤ x)
only_some true x h = (refl, h)
only_some false x h = absurd (not-suc-le-zero h)
