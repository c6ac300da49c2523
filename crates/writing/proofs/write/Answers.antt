-- `writing::write` meets its contract: the check and the length decide, in this order. Assumes nothing.
use Rattle.std.proofs.Common.{◌≡◌, refl, sym, ap, ◌∙◌, Ok, arith, rules}
use borrow.Author.Tests.{le-leb, lt-leb}
use Rattle.table.specs.Rules.{table_fault}
use Rattle.writing.specs.Write.{write_fault, write_answer, written}
use Rattle.writing.proofs.write.Goals as goal
use Rattle.writing.proofs.write.Goals.{In_ok-check}

fine : (c : goal.In_ok-check) → table_fault c.args.t ≡ Ok tt
fine c = sym c.check.ensures ∙ c.in_ok-check.was

pub returns-in_err-check : goal.returns-in_err-check
unfolding write_fault write_answer written
returns-in_err-check c = rw (sym c.check.ensures ∙ c.in_err-check.was) (search rules, refl)

pub table_len-requires : goal.table_len-requires
table_len-requires c = fine (goal.at.table_len-requires c).In_ok-check

pub returns-then-out-table_len : goal.returns-then-out-table_len
unfolding write_fault write_answer written
returns-then-out-table_len c =
    rw (fine (goal.at.returns-then-out-table_len c).In_ok-check, lt-leb _ _ (rw c.table_len.ensures at c.if-out-table_len.true)) (refl, refl)

pub put_table-requires : goal.put_table-requires
put_table-requires c =
    (fine (goal.at.put_table-requires c).In_ok-check, omega arith)

pub returns : goal.returns
unfolding write_fault write_answer written
returns c =
    rw (fine (goal.at.returns c).In_ok-check, le-leb _ _ (rw c.table_len.ensures at c.if-out-table_len.false)) (ap Ok c.put_table.ensures.0, rw c.put_table.ensures.0 at c.put_table.ensures.1)
