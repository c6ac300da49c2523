use Prim.Native.Nat.{◌-◌}
use native.Mathlib.Omega.{arith}
use Rattle.waits.proofs.WaitLaws.{from_none, from_more, in_limits, waits_none, waits_more}
use Rattle.waits.proofs.longest.waits_of.Goals as goal

pub loop-i-init : goal.loop-i-init
loop-i-init c =
    (from_none c.args.m c.new-kept.result.row c.new-kept.ensures, waits_none c.args.m)

pub wait_of-requires : goal.wait_of-requires
wait_of-requires c = in_limits c.args.m c.requires (c.loop-i.i - 1) (omega arith)

pub keep_task-requires : goal.keep_task-requires
keep_task-requires c = in_limits c.args.m c.requires (c.loop-i.i - 1) (omega arith)

pub loop-i-preserved : goal.loop-i-preserved
loop-i-preserved c =
    let t = c.args.m in
    let l = c.loop-i in (
      from_more t l.i (omega arith) (omega arith) l.invariant.0 c.keep_task.ensures,
      waits_more t c.requires l.i (omega arith) (omega arith) l.invariant.0 c.wait_of.ensures l.invariant.1,
    )
