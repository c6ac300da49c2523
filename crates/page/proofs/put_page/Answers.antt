-- `page::put_page` meets its contract: by the room and the number of rows. Assumes nothing.
use Rattle.std.proofs.Common.{Some, length, ap, arith}
use borrow.Author.Tests.{le-leb}
use Rattle.table.specs.Limits.{max_tasks}
use Rattle.page.specs.Report.{max_page}
use Rattle.page.specs.Pages.{printed}
use Rattle.page.proofs.put_page.Goals as goal

pub returns : goal.returns
unfolding printed
returns c =
    let a = c.args in
    rw (le-leb a.p.n max_tasks (omega arith), le-leb max_page (length a.out.now) (omega arith))
    (ap Some c.put_rows.ensures.0, rw c.put_rows.ensures.0 at c.put_rows.ensures.1)
