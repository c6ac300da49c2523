-- `unarchive::main` is safe and returns: what `read_input` counts is in `space`, and what `unarchive` counts is in `out`. Assumes nothing.
use Prim.Native.Nat.{◌≤◌}
use mathlib.Core.Path.{sym, ◌∙◌}
use native.Mathlib.Omega.{arith}
use lib.ListN.{length}
use lib.Seq.{length-take-le}
use Rattle.unarchive.proofs.Fits.{listing_fits}
use Rattle.unarchive.proofs.main.Goals as goal
use Rattle.unarchive.proofs.main.Goals.{In-Ok, In-Ok-unarchive}

read : (c : goal.In-Ok) → c.in-Ok.n ≤ length c.read_input.new.buf
read c = rw c.in-Ok.is at c.read_input.ensures

made : (c : goal.In-Ok-unarchive) → c.in-Ok-unarchive.length ≤ length c.unarchive.new.out
made c =
    omega (arith, listing_fits _ _ (sym c.unarchive.ensures.0 ∙ c.in-Ok-unarchive.is), c.unarchive.auto.out)

pub slice_bounds-space-end : goal.slice_bounds-space-end
slice_bounds-space-end c = read (goal.at.slice_bounds-space-end c).In-Ok

pub slice_bounds-unarchive-end : goal.slice_bounds-unarchive-end
slice_bounds-unarchive-end c = sym (length-take-le _ _ (read (goal.at.slice_bounds-unarchive-end c).In-Ok))

pub slice_bounds-out-end : goal.slice_bounds-out-end
slice_bounds-out-end c = made (goal.at.slice_bounds-out-end c).In-Ok-unarchive

pub slice_bounds-write_all-end-in-Ok-unarchive : goal.slice_bounds-write_all-end-in-Ok-unarchive
slice_bounds-write_all-end-in-Ok-unarchive c = sym (length-take-le _ _ (made (goal.at.slice_bounds-write_all-end-in-Ok-unarchive c).In-Ok-unarchive))
