use Prim.Native.Nat.{ℕ}
use mathlib.Core.Path.{◌≡◌, ap}
use native.Mathlib.Omega.{arith}
use lib.ListN.{length, drop}
use mathlib.Core.List.{◌++◌}
use Rattle.basics.proofs.FillLaws.{rest_at, Filled}
use Rattle.put.proofs.OutputLaws.{filled_text, filled_done, filled_again, filled_over, Upto, upto_of, upto_more, upto_in, upto_room}
use Rattle.page.specs.Report.{header, page_text}
use Rattle.page.specs.Pages.{cells_row}
use Rattle.page.proofs.Reports.{header_most, page_none, page_more}
use Rattle.page.proofs.put_rows.Goals as goal
use Rattle.page.proofs.put_rows.Goals.{After-put_header-at, After-put_row-at, In-loop-i}

headed : (h : goal.After-put_header-at) → let a = h.args in Filled a.out.now h.put_header-at.new.out (header a.p.columns) h.put_header-at.result
headed h = filled_text _ h.put_header-at.auto.out h.put_header-at.ensures

abbrev so_far : (c : goal.In-loop-i) → Upto c.put_header-at.new.out 1_928
so_far c =
    let l = c.loop-i in
    upto_of l.invariant.2 (omega (arith, l.invariant.2.long))

-- what is put is the row with what stands behind
told : (c : goal.After-put_row-at) → let a = c.args in let t = cells_row a.p a.cells c.loop-i.i in
    (c.put_row-at.result ≡ length t) × (c.put_row-at.new.out ≡ t ++ drop c.put_row-at.result (rest_at c.loop-i.out c.loop-i.at))
told c = rw (← c.wait_at.ensures, ← c.last_of-last.ensures) c.put_row-at.ensures.value

abbrev next : (c : goal.After-put_row-at) → Upto c.put_header-at.new.out 1_989
next c =
    let so_far : Upto c.put_header-at.new.out 1_928 =
    let l = c.loop-i in
    upto_of l.invariant.2 (omega (arith, l.invariant.2.long)) in
    let told : let a = c.args in let t = cells_row a.p a.cells c.loop-i.i in
    (c.put_row-at.result ≡ length t) × (c.put_row-at.new.out ≡ t ++ drop c.put_row-at.result (rest_at c.loop-i.out c.loop-i.at)) =
    rw (← c.wait_at.ensures, ← c.last_of-last.ensures) c.put_row-at.ensures.value in
    let a = c.args in
    let i = c.loop-i.i in
    upto_more so_far (cells_row a.p a.cells i) c.put_row-at.auto.out told (omega (arith, c.put_header-at.auto.out)) (omega (arith, told.0, c.put_row-at.ensures.upper_bound))

pub put_header-at-requires : goal.put_header-at-requires
put_header-at-requires c = omega (arith, c.requires.0)

pub loop-i-init : goal.loop-i-init
loop-i-init c =
    let a = c.args in
    (omega arith, omega (arith, (headed (goal.at.loop-i-init c).After-put_header-at).long, header_most a.p.columns), rw page_none (filled_again (headed (goal.at.loop-i-init c).After-put_header-at)))

pub slice_bounds-put_row-count : goal.slice_bounds-put_row-count
slice_bounds-put_row-count c = upto_in (so_far (goal.at.slice_bounds-put_row-count c).In-loop-i) (omega arith)

pub slice_bounds-put_row-start : goal.slice_bounds-put_row-start
slice_bounds-put_row-start c = upto_in (so_far (goal.at.slice_bounds-put_row-start c).In-loop-i) (omega arith)

pub put_row-at-requires : goal.put_row-at-requires
put_row-at-requires c = upto_room 61 (so_far (goal.at.put_row-at-requires c).In-loop-i) (omega arith)

pub overflow_add-at : goal.overflow_add-at
overflow_add-at c = omega (arith, (next (goal.at.overflow_add-at c).After-put_row-at).few)

pub loop-i-preserved : goal.loop-i-preserved
loop-i-preserved c = (omega arith, omega arith, rw page_more (next (goal.at.loop-i-preserved c).After-put_row-at).filled)

pub returns : goal.returns
returns c =
    let l = c.loop-i in
    let a = c.args in
    let e : l.i ≡ a.p.n = omega arith in
    filled_done (page_text a.p.columns a.p.n (cells_row a.p a.cells)) (ap (λ (n : ℕ). page_text a.p.columns n (cells_row a.p a.cells)) e) (filled_over (headed (goal.at.returns c).After-put_header-at) l.invariant.2 l.invariant.0)
