-- `block::reading::bytes` meets its contract: the call at i makes the byte there. Assumes nothing.
use Prim.Native.Nat.{◌+◌}
use native.Mathlib.Omega.{arith}
use Rattle.std.proofs.Common.{rules}
use Rattle.block.specs.Numbers.{byte_at}
use Rattle.basics.proofs.MadeLaws.{made_from}
use Rattle.block.proofs.reading.bytes.Goals as goal

pub returns : goal.returns
returns g c =
    let a = c.args in
    λ i h. made_from _ _ (λ j. byte_at a.s.now (a.at + j)) c.from_fn.result 0 (λ j y q z. search rules) 0 g.row.N c.from_fn.ensures.items.each i (omega arith) (omega arith)
