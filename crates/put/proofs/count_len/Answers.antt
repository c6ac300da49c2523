-- `put::count_len` meets its contract. Assumes nothing.
use mathlib.Core.Path.{sym, ◌∙◌}
use Rattle.put.proofs.TextLaws.{count_length}
use Rattle.put.proofs.count_len.Goals as goal

pub returns : goal.returns
returns c = c.width_of.ensures ∙ sym (count_length c.args.n)
