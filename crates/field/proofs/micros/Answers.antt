-- `field::micros` meets its contract. Assumes nothing.
use native.Mathlib.Omega.{arith}
use Rattle.field.specs.Number.{rounded}
use Rattle.field.proofs.micros.Goals as goal

pub returns-in-Down : goal.returns-in-Down
unfolding rounded
returns-in-Down c = (rw c.in-Down.is, omega arith)

pub returns-in-Up : goal.returns-in-Up
unfolding rounded
returns-in-Up c = (rw c.in-Up.is, omega arith)
