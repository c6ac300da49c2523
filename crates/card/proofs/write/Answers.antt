-- `card::write` meets its contract: a table that is accepted has few tasks. Assumes nothing.
use Rattle.std.proofs.Common.{sym, ◌∙◌, arith}
use Rattle.table.proofs.Acceptance.{fine_accepted}
use Rattle.card.proofs.write.Goals as goal

pub overflow_mul-needed : goal.overflow_mul-needed
overflow_mul-needed c = omega (arith, (fine_accepted c.args.t (sym c.check.ensures ∙ c.in_ok-check.was)).tasks_most)

pub put_blocks-requires : goal.put_blocks-requires
put_blocks-requires c = ((fine_accepted c.args.t (sym c.check.ensures ∙ c.in_ok-check.was)).tasks_most, omega arith)
