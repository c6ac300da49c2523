-- Who lends a task its priority. In a file of its own, so that a kernel that does not inherit is refused by what rests on this.
-- Assumes nothing.
use Prim.Native.Nat.{ℕ}
use mathlib.Core.Path.{◌≡◌, refl}
use mathlib.Core.Bool.{Bool, true, false, ◌||◌}
use borrow.Author.Tests.{eqb-true}
use lib.Dec.{eqb}
use Rattle.theory.specs.View.{View}
use Rattle.schedules.specs.Jobs.{JobSet}
use Rattle.schedules.specs.Schedule.{Schedule, waits_for, lends}

or_true : (a b : Bool) → (a || b) ≡ true → (A : Type 0) → (a ≡ true → A) → (b ≡ true → A) → A
or_true true b e A f g = f refl
or_true false b e A f g = g e

module _ (v : View) (J : JobSet) (S : Schedule) (s : ℕ) where
  -- a task's priority is that of itself, or of one who waits for its lock, and each of these counts
  pub lent : (l w : ℕ) → lends J S s l w ≡ true → (A : Type 0) → (w ≡ l → A) → (waits_for J S s w l ≡ true → A) → A
  lent l w e A f g = or_true (eqb w l) (waits_for J S s w l) e A (λ x. f (eqb-true w l x)) g
