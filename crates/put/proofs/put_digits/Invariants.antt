-- `put::put_digits` meets its contract. The loop's invariant: the i digits still to come, before what stands from i on, are all the digits of n. Assumes nothing.
use mathlib.Core.Path.{◌≡◌}
use mathlib.Core.List.{◌++◌}
use lib.ListN.{length, drop}
use Rattle.put.specs.Text.{digits_of}
use Rattle.put.proofs.put_digits.Given as goal

abbrev pub invariant-loop-i : goal.invariant-loop-i
invariant-loop-i l = digits_of l.i l.rest ++ drop l.i l.out ≡ digits_of (length l.fn.out) l.n
