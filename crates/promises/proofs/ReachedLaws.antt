-- Whom a run time that differs does not reach. In a file of its own, so that one who says more is refused by the law.
-- Assumes nothing.
use Prim.Native.Nat.{ℕ, ◌<◌}
use mathlib.Core.Path.{◌≡◌, ap}
use native.Mathlib.Omega.{arith}
use Rattle.table.specs.declared.Level.{Level}
use Rattle.theory.specs.View.{View, level}
use Rattle.promises.specs.Reads.{Above, OnlyRun}

-- the tasks above the task whose run time it is
abbrev pub NotReached : Level → Level → Type 0
NotReached i j = Above i j

-- such a task is another one
pub run_eq : (j : Level) (v w : View) → OnlyRun j v w → (l : ℕ) → l < v.n → NotReached (level l) j → w.C (level l) ≡ v.C (level l)
run_eq j v w o l h a = o.C l h (λ e. let z : (level l).0 ≡ j.0 = ap (λ (x : Level). x.0) e in omega arith)
