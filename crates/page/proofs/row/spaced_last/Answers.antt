-- `page::row::spaced_last` meets its contract: by the three cases, nothing or the callee's. Assumes nothing.
use Prim.Native.Nat.{◌+◌, ◌≤◌}
use mathlib.Core.Path.{sym}
use mathlib.Core.List.{◌∷◌}
use native.Mathlib.Nat.{add-zero}
use native.Mathlib.Omega.{arith}
use lib.ListN.{take-append-drop}
use Rattle.put.specs.Text.{count_text}
use Rattle.put.proofs.TextLaws.{count_most}
use Rattle.put.proofs.PlaceLaws.{PutAt, at_all}
use Rattle.page.proofs.row.spaced_last.Goals as goal
use Rattle.page.proofs.row.spaced_last.Goals.{After-unwrap_or}

counted : (c : goal.After-unwrap_or) → let a = c.args in
    PutAt (32 ∷ count_text c.in-Of.wait) a.at (a.at + c.unwrap_or.result) a.out.now c.spaced_count.new.out
counted c =
    let a = c.args in
    at_all (32 ∷ count_text c.in-Of.wait) a.out.now a.at (omega (arith, count_most c.in-Of.wait, c.requires)) c.unwrap_or.ensures c.spaced_count.ensures

few : (c : goal.After-unwrap_or) → c.unwrap_or.result ≤ 21
few c =
    let counted : let a = c.args in
    PutAt (32 ∷ count_text c.in-Of.wait) a.at (a.at + c.unwrap_or.result) a.out.now c.spaced_count.new.out =
    let a = c.args in
    at_all (32 ∷ count_text c.in-Of.wait) a.out.now a.at (omega (arith, count_most c.in-Of.wait, c.requires)) c.unwrap_or.ensures c.spaced_count.ensures in
    omega (arith, count_most c.in-Of.wait, counted.0)

pub overflow_add-result : goal.overflow_add-result
overflow_add-result c = omega (arith, few (goal.at.overflow_add-result c).After-unwrap_or, c.requires)

pub returns-in-Nothing : goal.returns-in-Nothing
returns-in-Nothing c =
    let a = c.args in
    record { value = rw c.in-Nothing.is (sym (add-zero a.at), sym (take-append-drop a.at a.out.now)); upper_bound = omega arith }

pub returns-in-Dash : goal.returns-in-Dash
returns-in-Dash c =
    record { value = rw c.in-Dash.is c.spaced.ensures; upper_bound = omega (arith, c.spaced.ensures.0) }

pub returns-in-Of : goal.returns-in-Of
returns-in-Of c = record { value = rw c.in-Of.is (counted (goal.at.returns-in-Of c).After-unwrap_or); upper_bound = omega (arith, few (goal.at.returns-in-Of c).After-unwrap_or) }
