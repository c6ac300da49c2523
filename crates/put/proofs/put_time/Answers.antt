-- `put::put_time` meets its contract: where the text fits, its front is lent to the digits of the whole part, and the rest of it to the fraction. Assumes nothing.
use Prim.Native.Nat.{◌+◌, ◌%◌}
use mathlib.Core.Path.{◌≡◌, refl}
use native.Mathlib.Omega.{arith}
use lib.ListN.{length}
use Rattle.basics.proofs.FillLaws.{filled_part}
use Rattle.put.specs.Text.{time_text}
use Rattle.put.proofs.TextLaws.{count_filled}
use Rattle.put.proofs.TimeLaws.{fraction_text, parts_length, parts_filled, time_length}
use Rattle.put.proofs.PutLaws.{put_short, put_filled}
use Rattle.put.proofs.put_time.Goals as goal
use Rattle.put.proofs.put_time.Goals.{After-fraction_len}

long : (c : goal.After-fraction_len) → c.width_of-w.result + c.fraction_len.result ≡ length (time_text c.args.us)
long c = parts_length c.args.us (rw c.from-whole.ensures at c.width_of-w.ensures) c.fraction_len.ensures

pub overflow_add-n : goal.overflow_add-n
overflow_add-n c = omega (arith, long (goal.at.overflow_add-n c).After-fraction_len, time_length c.args.us (omega arith))

pub returns-then-out-n : goal.returns-then-out-n
returns-then-out-n c =
    let a = c.args in
    put_short (time_text a.us) a.out.now (long (goal.at.returns-then-out-n c).After-fraction_len) c.if-out-n.true

pub returns : goal.returns
returns c =
    let us = c.args.us in
    let whole = rw c.from-whole.ensures at (count_filled _ c.width_of-w.ensures (omega arith) c.put_digits.ensures) in
    put_filled (parts_filled us c.width_of-w.result c.fraction_len.ensures (filled_part whole (fraction_text (us % 1000)) (omega arith) refl c.put_fraction.auto.out c.put_fraction.ensures)) c.if-out-n.false
