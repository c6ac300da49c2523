-- `report::text::report` meets its contract: what is put of the listing's page, with the cells of its verdicts, or of its refusal, is the report. Assumes nothing.
use Rattle.std.proofs.Common.{rules, sym, ◌∙◌}
use Rattle.basics.proofs.MadeLaws.{row_made}
use Rattle.page.specs.declared.Columns.TheVariants.{Five}
use Rattle.page.specs.Report.{report_allowance}
use Rattle.page.specs.Pages.{no_cells, cells_at}
use Rattle.page.proofs.Printed.{report_put, report_told}
use Rattle.report.proofs.text.report.Goals as goal

pub returns-in-Ok : goal.returns-in-Ok
unfolding report_allowance
returns-in-Ok c =
    let cells = row_made _ _ (cells_at c.in-Ok.p.rows) 32 c.from_fn-cells.result no_cells c.from_fn-cells.ensures.items (λ i y q z. search rules) in
    report_put c.args.listing.now Five report_allowance c.args.out.now (sym c.page_of.ensures ∙ c.in-Ok.is) cells c.requires c.unwrap_or.ensures c.put_page.ensures.0 c.put_page.ensures.1

pub returns-in-Err : goal.returns-in-Err
unfolding report_allowance
returns-in-Err c =
    report_told c.args.listing.now Five report_allowance c.args.out.now (sym c.page_of.ensures ∙ c.in-Err.is) c.requires c.unwrap_or-in-Err.ensures c.put_refusal.ensures.0 c.put_refusal.ensures.1
