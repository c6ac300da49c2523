use Rattle.std.proofs.Common.{◌≡◌, ℕ, ◌+◌, refl, sym, ◌∙◌, arith, rules, add-one}
use Rattle.table.specs.declared.Table.{Table}
use Rattle.table.specs.At.{alpha_at}
use Rattle.table.specs.Faults.{first_fault}
use Rattle.table.specs.Rules.{next_alpha, last_alpha, task_fault_at, tasks_fault}
use Rattle.table.proofs.FirstLaws.{first_more, first_at}
use Rattle.checking.proofs.check_tasks.Goals as goal
use Rattle.checking.proofs.check_tasks.Goals.{After-check_task}

-- one task more
last_more : (t : Table) (i : ℕ) → last_alpha t (i + 1) ≡ next_alpha (last_alpha t i) (alpha_at t i)
unfolding last_alpha
last_more t i = rw add-one

pub loop-i-init : goal.loop-i-init
unfolding first_fault last_alpha
loop-i-init c = (refl, refl)

-- what the call found is the fault of this task
said : (c : goal.After-check_task) → task_fault_at c.args.t c.loop-i.i ≡ c.check_task.result
said c = rw (← c.loop-i.invariant.0) (sym c.check_task.ensures)

pub returns-in_err-check_task : goal.returns-in_err-check_task
unfolding tasks_fault
returns-in_err-check_task c =
    let l = c.loop-i in
    let e : c.from_residual.result ≡ c.check_task.result = search rules in
    e ∙ c.in_err-check_task.was ∙ sym (first_at _ l.i _ _ c.loop-i-test.true l.invariant.1 (said (goal.at.returns-in_err-check_task c).After-check_task ∙ c.in_err-check_task.was))

pub loop-i-preserved : goal.loop-i-preserved
loop-i-preserved c =
    let l = c.loop-i in
    (rw (last_more, ← l.invariant.0) c.later-last.ensures, rw (first_more, l.invariant.1) (said (goal.at.loop-i-preserved c).After-check_task ∙ c.in_ok-check_task.was))

pub returns : goal.returns
unfolding tasks_fault
returns c =
    let l = c.loop-i in
    let e : l.i ≡ c.args.t.n = omega arith in
    cc
