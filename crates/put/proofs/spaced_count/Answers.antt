-- `put::spaced_count` meets its contract: where both fit, a space is put at the place, and what follows it is lent to the digits. Assumes nothing.
use Prim.Native.Nat.{◌+◌, ◌-◌}
use mathlib.Core.Path.{◌≡◌}
use mathlib.Core.List.{◌∷◌}
use native.Mathlib.Omega.{arith}
use lib.ListN.{length, set, take, drop, length-take, length-drop, length-set}
use lib.Seq.{append_snoc}
use Rattle.basics.proofs.FillLaws.{filled_byte}
use Rattle.put.specs.Text.{width, count_text}
use Rattle.put.proofs.TextLaws.{count_length, count_part}
use Rattle.put.proofs.PutLaws.{filled_mid}
use Rattle.put.proofs.PlaceLaws.{filled_here, at_short, at_filled}
use Rattle.put.proofs.spaced_count.Goals as goal

pub returns-then-saturating_sub-at : goal.returns-then-saturating_sub-at
returns-then-saturating_sub-at c =
    let a = c.args in
    at_short (32 ∷ count_text a.n) a.out.now a.at (omega (arith, c.width_of-k.ensures, count_length a.n))

pub returns : goal.returns
returns c =
    let a = c.args in
    let n = count_length a.n in
    let o = set a.out.now a.at 32 in
    let w : length (take (a.at + 1 + c.width_of-k.result - (a.at + 1)) (drop (a.at + 1) o)) ≡ width a.n =
    simp (length-take, length-drop, length-set) (omega (arith, c.width_of-k.ensures)) in
    let space = filled_byte (filled_here a.out.now a.at (omega arith)) 32 (omega arith) in
    let both = filled_mid {n = a.at + 1 + c.width_of-k.result} space (count_text a.n) (omega (arith, c.width_of-k.ensures, n)) (omega arith) (count_part a.n w c.put_digits.ensures) in
    at_filled (32 ∷ count_text a.n) a.out.now a.at (omega arith) (rw append_snoc at both) (omega (arith, c.width_of-k.ensures, n))
