-- `field::leading` meets its contract. The loop's invariant: the digits from its place on make up, with those passed, the digits of the whole, in length and in number. Assumes nothing.
use Prim.Native.Nat.{◌+◌, ◌^◌, ◌≤◌, ◌<◌}
use mathlib.Core.Path.{◌≡◌}
use lib.ListN.{length, drop}
use Rattle.field.specs.Number.{digits, number}
use Rattle.field.proofs.leading.Given as goal

abbrev pub invariant-loop-width : goal.invariant-loop-width
invariant-loop-width l = (l.width ≤ l.most) × (l.width + length (digits (drop l.width l.s)) ≡ length (digits l.s)) × (number l.value (digits (drop l.width l.s)) ≡ number 0 (digits l.s)) × (l.value < 10 ^ l.width)
