-- `bench::main` is safe and returns: what `read_input` counts is in `space`, and what `report` counts is in `out`. Assumes nothing.
use mathlib.Core.Path.{sym}
use Prim.Native.Nat.{◌≤◌}
use lib.ListN.{length, take}
use lib.Seq.{length-take-le}
use Rattle.page.specs.declared.Columns.TheVariants.{Four}
use Rattle.page.specs.Report.{bench_allowance, report_text}
use Rattle.put.proofs.OutputLaws.{text_within}
use Rattle.bench.proofs.main.Goals as goal
use Rattle.bench.proofs.main.Goals.{After-report-length, In-Ok}

read : (c : goal.In-Ok) → c.in-Ok.n ≤ length c.read_input.new.buf
read c = rw c.in-Ok.is at c.read_input.ensures

made : (c : goal.After-report-length) → c.report-length.result ≤ length c.report-length.new.out
made c =
    let n = c.in-Ok.n in
    text_within (report_text Four bench_allowance (take n c.read_input.new.buf)) _ c.report-length.ensures.0 c.report-length.ensures.1

pub slice_bounds-space-end : goal.slice_bounds-space-end
slice_bounds-space-end c = read (goal.at.slice_bounds-space-end c).In-Ok

pub slice_bounds-report-end : goal.slice_bounds-report-end
slice_bounds-report-end c = sym (length-take-le _ _ (read (goal.at.slice_bounds-report-end c).In-Ok))

pub slice_bounds-out-end : goal.slice_bounds-out-end
slice_bounds-out-end c = made (goal.at.slice_bounds-out-end c).After-report-length
