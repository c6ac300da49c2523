use Rattle.std.proofs.Common.{◌≡◌, ℕ, ◌++◌, length, drop, set, sym, ap, ◌∙◌, Ok, Err, arith, rules}
use Rattle.basics.specs.Over.{row_to}
use Rattle.basics.proofs.RowLaws.{over_none, over_more}
use Rattle.table.specs.declared.Table.{Table}
use Rattle.table.specs.Rules.{table_fault}
use Rattle.theory.specs.Tables.{view_of}
use Rattle.merging.proofs.ReadLaws.{read_refused, read_fine, read_merged, read_asks}
use Rattle.table.specs.Faults.{◌then◌}
use Rattle.analysis.specs.Answers.{allowance_fault, row_fault, analysis_fault, record_by, record_of}
use Rattle.analysis.proofs.RowLaws.{fits, row_fine, row_refused}
use Rattle.analysis.proofs.analyse.Goals as goal
use Rattle.analysis.proofs.analyse.Goals.{In_ok-m, After-first_of, In_ok-first_of}

read : (c : goal.In_ok-m) → table_fault c.args.t ≡ Ok tt
read c = read_fine c.args.t (sym c.merge.ensures ∙ c.in_ok-m.was)

pub returns-in_err-m : goal.returns-in_err-m
unfolding analysis_fault
returns-in_err-m c =
    let a = c.args in
    let e : analysis_fault a.t a.allowance (length a.row.now) ≡ Err c.in_err-m.field-0.0 = rw (read_refused a.t (sym c.merge.ensures ∙ c.in_err-m.was)) in
    (rw e (search rules), row_refused _ _ _ e)

-- the two checks after the table's own, in their order
checks : (c : goal.After-first_of) → let a = c.args in c.first_of.result ≡ (allowance_fault a.allowance then row_fault a.t.n (length a.row.now))
checks c = rw (← c.check_allowance.ensures, ← c.check_row.ensures) c.first_of.ensures

pub returns-in_err-first_of : goal.returns-in_err-first_of
unfolding analysis_fault
returns-in_err-first_of c =
    let a = c.args in
    let here = goal.at.returns-in_err-first_of c in
    let e : analysis_fault a.t a.allowance (length a.row.now) ≡ Err c.in_err-first_of.field-0.0 = rw (read here.In_ok-m, sym (checks here.After-first_of) ∙ c.in_err-first_of.was) in
    (rw e (search rules), row_refused _ _ _ e)

fine : (c : goal.In_ok-first_of) → let a = c.args in analysis_fault a.t a.allowance (length a.row.now) ≡ Ok tt
unfolding analysis_fault
fine c =
    let read : table_fault c.args.t ≡ Ok tt = read_fine c.args.t (sym c.merge.ensures ∙ c.in_ok-m.was) in
    let checks : c.first_of.result ≡ (allowance_fault c.args.allowance then row_fault c.args.t.n (length c.args.row.now)) = rw (← c.check_allowance.ensures, ← c.check_row.ensures) c.first_of.ensures in
    rw (read, sym checks ∙ c.in_ok-first_of.was)

pub loop-i-init : goal.loop-i-init
loop-i-init c = over_none _ _

pub record_at-requires : goal.record_at-requires
record_at-requires c = read_asks c.args.t (sym c.merge.ensures ∙ c.in_ok-m.was) c.loop-i-test.true

pub bounds-row-i : goal.bounds-row-i
bounds-row-i c = let f = fits _ _ _ (fine (goal.at.bounds-row-i c).In_ok-first_of) in omega (arith, f.1)

pub loop-i-preserved : goal.loop-i-preserved
loop-i-preserved c =
    let a = c.args in
    let i = c.loop-i.i in
    let f = fits _ _ _ (fine (goal.at.loop-i-preserved c).In_ok-first_of) in
    let r = c.record_at.ensures ∙ ap (λ (m : Table). record_by (view_of m) a.allowance i) (read_merged a.t (sym c.merge.ensures ∙ c.in_ok-m.was)) in
    (λ j. set (c.loop-i.invariant j) i (r j)) ∙ over_more (record_of a.t a.allowance) i a.row.now (omega (arith, f.1))

pub returns : goal.returns
returns c =
    let a = c.args in
    let fine = fine (goal.at.returns c).In_ok-first_of in
    let all : c.loop-i.i ≡ a.t.n = omega arith in
    (sym fine, c.loop-i.invariant ∙ ap (λ (n : ℕ). row_to n (record_of a.t a.allowance) ++ drop n a.row.now) all ∙ row_fine _ _ _ fine)
