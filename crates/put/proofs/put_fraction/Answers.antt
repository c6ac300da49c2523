-- `put::put_fraction` meets its contract: where there are digits a point is put, and what follows it is lent to them. Assumes nothing.
use native.Mathlib.Omega.{arith}
use lib.ListN.{length-set}
use Rattle.put.proofs.TimeLaws.{fraction_length}
use Rattle.put.proofs.put_fraction.Goals as goal

pub slice_bounds-put_digits-end : goal.slice_bounds-put_digits-end
slice_bounds-put_digits-end c =
    let f = c.fraction_of-k in
    simp length-set (omega (arith, fraction_length c.args.x f.result.0 f.result.1 f.ensures.0 (λ z. omega arith), c.requires.room))
