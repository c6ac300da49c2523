-- `put::put_count` meets its contract: where the digits fit, the front of the output is lent to them. Assumes nothing.
use mathlib.Core.Path.{sym, ◌∙◌}
use Rattle.put.specs.Text.{count_text}
use Rattle.put.proofs.TextLaws.{count_length, count_filled}
use Rattle.put.proofs.PutLaws.{put_short, put_filled}
use Rattle.put.proofs.put_count.Goals as goal

pub returns-then-out-k : goal.returns-then-out-k
returns-then-out-k c = let a = c.args in
    put_short (count_text a.n) a.out.now (c.width_of-k.ensures ∙ sym (count_length a.n)) c.if-out-k.true

pub returns : goal.returns
returns c = put_filled (count_filled c.args.n c.width_of-k.ensures c.if-out-k.false c.put_digits.ensures) c.if-out-k.false
