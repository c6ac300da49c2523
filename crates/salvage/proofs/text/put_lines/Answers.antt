-- Each line is put where the one before it ended, and there is room for 64. Assumes nothing.
use native.Mathlib.Omega.{arith}
use Rattle.basics.proofs.JoinLaws.{join_none, join_more}
use Rattle.basics.proofs.FillLaws.{rest_length, filled_none, filled_part}
use Rattle.salvage.specs.Telling.{code_line}
use Rattle.salvage.proofs.TellingLaws.{lines_most}
use Rattle.salvage.proofs.text.put_lines.Goals as goal

pub loop-i-init : goal.loop-i-init
loop-i-init c = rw join_none (filled_none _)

pub put_line-at-requires : goal.put_line-at-requires
put_line-at-requires c = omega (arith, rest_length c.loop-i.out c.loop-i.at, lines_most c.loop-i.i c.args.list.now (omega arith))

pub loop-i-preserved : goal.loop-i-preserved
loop-i-preserved c =
    let most = lines_most c.loop-i.i c.args.list.now (omega arith) in
    rw join_more (filled_part c.loop-i.invariant (code_line c.args.list.now c.loop-i.i) (omega arith) c.put_line-at.ensures.0 c.put_line-at.auto.out c.put_line-at.ensures.1)
