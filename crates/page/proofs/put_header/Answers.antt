-- `page::put_header` meets its contract: by the columns, the text that is put. Assumes nothing.
use native.Mathlib.Omega.{arith}
use Rattle.put.proofs.OutputLaws.{written_all}
use Rattle.page.specs.declared.Columns.TheVariants.{Four, Five}
use Rattle.page.specs.Report.{header}
use Rattle.page.proofs.put_header.Goals as goal

pub returns-in-Four : goal.returns-in-Four
returns-in-Four c =
    rw c.in-Four.is
    (written_all (header Four) c.args.out.now (omega arith) c.unwrap_or.ensures c.put_text.ensures.0 c.put_text.ensures.1)

pub returns-in-Five : goal.returns-in-Five
returns-in-Five c =
    rw c.in-Five.is
    (written_all (header Five) c.args.out.now (omega arith) c.unwrap_or-in-Five.ensures c.put_text-in-Five.ensures.0 c.put_text-in-Five.ensures.1)
