-- `page::row::spaced_bound` meets its contract: by the two cases, the callee's. Assumes nothing.
use Prim.Native.Nat.{◌+◌, ◌≤◌}
use mathlib.Core.List.{◌∷◌}
use native.Mathlib.Omega.{arith}
use lib.ListN.{length}
use Rattle.put.specs.Text.{count_text}
use Rattle.put.proofs.TextLaws.{count_small}
use Rattle.put.proofs.PlaceLaws.{PutAt, at_all}
use Rattle.page.proofs.row.spaced_bound.Goals as goal
use Rattle.page.proofs.row.spaced_bound.Goals.{After-unwrap_or, In-Some}

-- a bound has 32 bits
short : (k : goal.In-Some) → length (count_text k.in-Some.t) ≤ 10
short k = count_small k.in-Some.t (omega arith)

counted : (c : goal.After-unwrap_or) → let a = c.args in
    PutAt (32 ∷ count_text c.in-Some.t) a.at (a.at + c.unwrap_or.result) a.out.now c.spaced_count.new.out
counted c =
    let short : length (count_text c.in-Some.t) ≤ 10 =
    count_small c.in-Some.t (omega arith) in
    let a = c.args in
    at_all (32 ∷ count_text c.in-Some.t) a.out.now a.at (omega (arith, short, c.requires)) c.unwrap_or.ensures c.spaced_count.ensures

few : (c : goal.After-unwrap_or) → c.unwrap_or.result ≤ 11
few c =
    let short : length (count_text c.in-Some.t) ≤ 10 =
    count_small c.in-Some.t (omega arith) in
    let counted : let a = c.args in
    PutAt (32 ∷ count_text c.in-Some.t) a.at (a.at + c.unwrap_or.result) a.out.now c.spaced_count.new.out =
    let a = c.args in
    at_all (32 ∷ count_text c.in-Some.t) a.out.now a.at (omega (arith, short, c.requires)) c.unwrap_or.ensures c.spaced_count.ensures in
    omega (arith, short, counted.0)

pub overflow_add-result : goal.overflow_add-result
overflow_add-result c = omega (arith, few (goal.at.overflow_add-result c).After-unwrap_or, c.requires)

pub returns-in-Some : goal.returns-in-Some
returns-in-Some c = record { value = rw c.in-Some.is (counted (goal.at.returns-in-Some c).After-unwrap_or); upper_bound = omega (arith, few (goal.at.returns-in-Some c).After-unwrap_or) }

pub returns-in-None : goal.returns-in-None
returns-in-None c =
    record { value = rw c.in-None.is c.spaced.ensures; upper_bound = omega (arith, c.spaced.ensures.0) }
