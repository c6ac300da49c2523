-- Laws of rounding to the microsecond.
-- Assumes nothing.
use Prim.Native.Nat.{ℕ, ◌+◌, ◌*◌}
use mathlib.Core.Path.{◌≡◌}
use native.Mathlib.Omega.{arith}
use Rattle.field.specs.declared.Rounding.{Rounding}
use Rattle.field.specs.declared.Rounding.TheVariants.{Down, Up}
use Rattle.field.specs.Number.{rounded}
use Rattle.field.specs.Spelling.{RoundedTo}

-- whole milliseconds are kept as they are; what is past them carries into them
pub rounded_past : (way : Rounding) (v ns : ℕ) → rounded way (v * 1_000_000 + ns) ≡ v * 1000 + rounded way ns
unfolding rounded
rounded_past Down v ns = omega arith
rounded_past Up v ns = omega arith

-- so are whole microseconds
pub rounded_whole : (way : Rounding) (us : ℕ) → rounded way (us * 1000) ≡ us
unfolding rounded
rounded_whole Down us = omega arith
rounded_whole Up us = omega arith

-- the two ways to say it agree
pub rounded_to : (way : Rounding) (ns : ℕ) → RoundedTo way ns (rounded way ns)
unfolding rounded RoundedTo
rounded_to Down ns = omega arith
rounded_to Up ns = omega arith

pub to_rounded : (way : Rounding) (ns v : ℕ) → RoundedTo way ns v → rounded way ns ≡ v
unfolding rounded RoundedTo
to_rounded Down ns v h = omega arith
to_rounded Up ns v h = omega arith

pub whole_to : (way : Rounding) (us : ℕ) → RoundedTo way (us * 1000) us
unfolding RoundedTo
whole_to Down us = omega arith
whole_to Up us = omega arith
