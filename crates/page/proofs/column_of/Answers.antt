-- `page::column_of` meets its contract: of a table whose first task has no alpha there are no waits. Assumes nothing.
use Rattle.std.proofs.Common.{None, refl, sym, arith}
use borrow.Author.Tests.{le-ltb}
use Rattle.table.specs.At.{alpha_at}
use Rattle.waits.proofs.AnswerLaws.{none_all}
use Rattle.page.specs.Pages.{if_given}
use Rattle.page.proofs.column_of.Goals as goal

pub returns-then-t-eq0 : goal.returns-then-t-eq0
returns-then-t-eq0 c =
    rw c.in-Five.is (sym (none_all c.args.t if_given None refl (λ r. refl) (le-ltb 0 (alpha_at c.args.t 0) (omega arith))))
