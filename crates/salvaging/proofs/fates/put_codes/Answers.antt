use Rattle.std.proofs.Common.{◌≡◌, ◌∙◌, length, arith}
use mathlib.Core.List.{append-nil}
use lib.ListN.{drop_of_length-le}
use Rattle.basics.proofs.RowLaws.{over_none, over_more}
use Rattle.salvaging.specs.Fates.{code_at}
use Rattle.salvaging.proofs.fates.put_codes.Goals as goal

pub loop-i-init : goal.loop-i-init
loop-i-init c = over_none (code_at c.args.input.now) _

pub loop-i-preserved : goal.loop-i-preserved
loop-i-preserved c =
    rw (c.loop-i.invariant, c.code.ensures, c.fate_of.ensures) (over_more (code_at c.args.input.now) _ _ (omega arith))

pub returns : goal.returns
returns c =
    let e : c.loop-i.i ≡ length c.args.codes.now = omega arith in
    c.loop-i.invariant ∙ rw (e, drop_of_length-le c.args.codes.now {i = length c.args.codes.now} (omega arith), append-nil)
