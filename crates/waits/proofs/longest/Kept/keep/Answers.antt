use native.Mathlib.Omega.{arith}
use Rattle.waits.proofs.KeptLaws.{kept_row}
use Rattle.waits.proofs.PlacingLaws.{placed_none, placing_more, placing_row, placed_full, placed_room}
use Rattle.waits.proofs.longest.Kept.keep.Goals as goal

pub returns-then-x-self : goal.returns-then-x-self
returns-then-x-self c =
    placed_none c.args.x c.args.self.now.row (omega arith) (omega arith)

pub invariant_of-self : goal.invariant_of-self
invariant_of-self c =
    let l = c.loop-i in
    record { row = placing_row c.args.self.now.row l.self.row l.invariant c.max.result (omega arith) c.max.ensures }

pub loop-i-preserved : goal.loop-i-preserved
loop-i-preserved c =
    let l = c.loop-i in
    placing_more c.args.self.now.row l.self.row l.invariant c.max.result c.min-y.result (omega arith) c.max.ensures c.min-y.ensures

pub invariant_of-self-then-self-lt-KEPT : goal.invariant_of-self-then-self-lt-KEPT
invariant_of-self-then-self-lt-KEPT c =
    let s = c.args.self.now in
    let l = c.loop-i in
    record { row = kept_row s.row.falls (placed_room s.row l.self.row l.invariant (omega arith) (omega arith) (omega arith)) }

pub returns-then-self-lt-KEPT : goal.returns-then-self-lt-KEPT
returns-then-self-lt-KEPT c =
    let l = c.loop-i in
    placed_room c.args.self.now.row l.self.row l.invariant (omega arith) (omega arith) (omega arith)

pub returns-else-self-lt-KEPT : goal.returns-else-self-lt-KEPT
returns-else-self-lt-KEPT c =
    let l = c.loop-i in
    placed_full c.args.self.now.row l.self.row l.invariant (omega arith) (omega arith) (omega arith)
