use Prim.Native.Nat.{◌+◌, ◌-◌}
use mathlib.Core.Path.{◌≡◌}
use native.Mathlib.Omega.{arith}
use Rattle.put.proofs.TextLaws.{wider_none, wider_more, wider_fits, width_is, width_last}
use Rattle.put.proofs.width_of.Goals as goal

pub loop-k-init : goal.loop-k-init
loop-k-init c = wider_none c.args.n

pub overflow_mul-power : goal.overflow_mul-power
overflow_mul-power c = omega (arith, wider_fits c.loop-k.invariant (omega arith))

pub returns-then-n-power : goal.returns-then-n-power
returns-then-n-power c = omega (arith, width_is c.loop-k.invariant (omega arith) c.if-n-power.true)

pub loop-k-preserved : goal.loop-k-preserved
loop-k-preserved c =
    let k = c.loop-k.k in
    let e : k + 1 - 1 ≡ k - 1 + 1 = omega arith in
    rw e (wider_more c.loop-k.invariant c.if-n-power.false)

pub returns : goal.returns
returns c = width_last c.loop-k.invariant (omega arith)
