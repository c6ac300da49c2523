-- `archive::main` is safe and returns: what `read_input` counts is in `space`, and what `archive` counts is in `out`. Assumes nothing.
use Prim.Native.Nat.{◌≤◌}
use mathlib.Core.Path.{sym, ◌∙◌}
use native.Mathlib.Omega.{arith}
use lib.ListN.{length}
use lib.Seq.{length-take-le}
use Rattle.archive.proofs.Fits.{archive_fits}
use Rattle.archive.proofs.main.Goals as goal
use Rattle.archive.proofs.main.Goals.{In-Ok, In-Ok-archive}

read : (c : goal.In-Ok) → c.in-Ok.n ≤ length c.read_input.new.buf
read c = rw c.in-Ok.is at c.read_input.ensures

made : (c : goal.In-Ok-archive) → c.in-Ok-archive.length ≤ length c.archive.new.out
made c =
    omega (arith, archive_fits _ _ (sym c.archive.ensures.0 ∙ c.in-Ok-archive.is), c.archive.auto.out)

pub slice_bounds-space-end : goal.slice_bounds-space-end
slice_bounds-space-end c = read (goal.at.slice_bounds-space-end c).In-Ok

pub slice_bounds-archive-end : goal.slice_bounds-archive-end
slice_bounds-archive-end c = sym (length-take-le _ _ (read (goal.at.slice_bounds-archive-end c).In-Ok))

pub slice_bounds-out-end : goal.slice_bounds-out-end
slice_bounds-out-end c = made (goal.at.slice_bounds-out-end c).In-Ok-archive

pub slice_bounds-write_all-end-in-Ok-archive : goal.slice_bounds-write_all-end-in-Ok-archive
slice_bounds-write_all-end-in-Ok-archive c = sym (length-take-le _ _ (made (goal.at.slice_bounds-write_all-end-in-Ok-archive c).In-Ok-archive))
