-- `page::put_rows` meets its contract. The invariant: the output, as it was after the header, is filled with the text of the first i rows up to `at`, which is at most the header and i longest rows.  Assumes nothing.
use Prim.Native.Nat.{◌+◌, ◌*◌, ◌≤◌}
use Rattle.basics.proofs.FillLaws.{Filled}
use Rattle.page.specs.Report.{max_header, page_text, max_row}
use Rattle.page.specs.Pages.{cells_row}
use Rattle.page.proofs.put_rows.Given as goal

abbrev pub invariant-loop-i : goal.invariant-loop-i
invariant-loop-i l = (l.initial.at ≤ l.at) × (l.at ≤ max_header + l.i * max_row) × Filled l.initial.out l.out (page_text l.p.columns l.i (cells_row l.p l.cells)) l.at
