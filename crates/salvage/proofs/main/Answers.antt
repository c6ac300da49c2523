-- `salvage::main` is safe and returns: what `salvage` counts of the archive is in `out`. Assumes nothing.
use Prim.Native.Nat.{◌≤◌}
use mathlib.Core.Path.{sym}
use native.Mathlib.Omega.{arith}
use lib.ListN.{length}
use lib.Seq.{length-take-le}
use Rattle.salvaging.specs.Salvage.{max_blocks}
use Rattle.salvage.specs.Telling.{max_card}
use Rattle.salvage.proofs.TellingLaws.{archive_most}
use Rattle.salvage.proofs.main.Goals as goal
use Rattle.salvage.proofs.main.Goals.{After-salvage-made}

made : (c : goal.After-salvage-made) → c.salvage-made.result.archive ≤ length c.salvage-made.new.out
made c = omega (arith, archive_most _ max_blocks max_card c.salvage-made.ensures.0)

pub slice_bounds-write_all-end-3 : goal.slice_bounds-write_all-end-3
slice_bounds-write_all-end-3 c = sym (length-take-le _ _ (made (goal.at.slice_bounds-write_all-end-3 c).After-salvage-made))

pub slice_bounds-out-end : goal.slice_bounds-out-end
slice_bounds-out-end c = made (goal.at.slice_bounds-out-end c).After-salvage-made
