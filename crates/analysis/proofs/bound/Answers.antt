-- `analysis::bound` meets its contract: the three checks, in the definition's order, and then the callee's answer at the task's slot. Assumes nothing.
use Rattle.std.proofs.Common.{◌≡◌, ℕ, suc, ◌-◌, sym, ap, ◌∙◌, Ok, arith, rules}
use Rattle.table.specs.declared.Table.{Table}
use Rattle.table.specs.Faults.{◌then◌}
use Rattle.table.specs.Rules.{table_fault, asked_fault}
use Rattle.theory.specs.Tables.{view_of, counted_by, counted_in}
use Rattle.merging.proofs.ReadLaws.{read_refused, read_fine, read_merged, read_asks}
use Rattle.analysis.specs.Answers.{allowance_fault, bound_fault, bound_of}
use Rattle.analysis.proofs.RowLaws.{asked}
use Rattle.analysis.proofs.bound.Goals as goal
use Rattle.analysis.proofs.bound.Goals.{In_ok-m, After-first_of, In_ok-first_of}

read : (c : goal.In_ok-m) → table_fault c.args.t ≡ Ok tt
read c = read_fine c.args.t (sym c.merge.ensures ∙ c.in_ok-m.was)

pub returns-in_err-m : goal.returns-in_err-m
unfolding bound_of bound_fault
returns-in_err-m c = rw (read_refused c.args.t (sym c.merge.ensures ∙ c.in_err-m.was)) (search rules)

-- the two checks after the table's own, in their order
checks : (c : goal.After-first_of) → let a = c.args in c.first_of.result ≡ (asked_fault a.t.n a.task then allowance_fault a.allowance)
checks c = rw (← c.asked.ensures, ← c.check_allowance.ensures) c.first_of.ensures

pub returns-in_err-first_of : goal.returns-in_err-first_of
unfolding bound_of bound_fault
returns-in_err-first_of c =
    let here = goal.at.returns-in_err-first_of c in
    rw (read here.In_ok-m, sym (checks here.After-first_of) ∙ c.in_err-first_of.was) (search rules)

fine : (c : goal.In_ok-first_of) → let a = c.args in bound_fault a.t a.task a.allowance ≡ Ok tt
unfolding bound_fault
fine c =
    let read : table_fault c.args.t ≡ Ok tt = read_fine c.args.t (sym c.merge.ensures ∙ c.in_ok-m.was) in
    let checks : c.first_of.result ≡ (asked_fault c.args.t.n c.args.task then allowance_fault c.args.allowance) = rw (← c.asked.ensures, ← c.check_allowance.ensures) c.first_of.ensures in
    rw (read, sym checks ∙ c.in_ok-first_of.was)

pub overflow_sub-task : goal.overflow_sub-task
overflow_sub-task c = omega (arith, (asked _ _ _ (fine (goal.at.overflow_sub-task c).In_ok-first_of)).1)

pub counted_at-requires : goal.counted_at-requires
counted_at-requires c =
    let f = asked _ _ _ (fine (goal.at.counted_at-requires c).In_ok-first_of) in
    read_asks c.args.t (sym c.merge.ensures ∙ c.in_ok-m.was) (omega (arith, f.1, f.2))

-- a task's number is one more than its slot
pub returns : goal.returns
unfolding bound_of
returns c =
    let a = c.args in
    let f = asked _ _ _ (fine (goal.at.returns c).In_ok-first_of) in
    let slot : suc (a.task.0 - 1) ≡ a.task.0 = omega (arith, f.1) in
    rw (fine (goal.at.returns c).In_ok-first_of)
    (ap Ok
    (c.counted_at.ensures
    ∙ ap (λ (m : Table). counted_by (view_of m) a.allowance (record { 0 = suc (a.task.0 - 1) })) (read_merged a.t (sym c.merge.ensures ∙ c.in_ok-m.was))
    ∙ ap (λ (n : ℕ). counted_in a.t a.allowance (record { 0 = n })) slot))
