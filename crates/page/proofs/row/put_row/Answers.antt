-- `page::row::put_row` meets its contract: the number, each field and the LF are put at the place behind what was put before. Assumes nothing.
use Prim.Native.Nat.{◌+◌, ◌≤◌}
use mathlib.Core.Path.{◌≡◌}
use mathlib.Core.List.{[], ◌∷◌, ◌++◌}
use native.Mathlib.Omega.{arith}
use lib.ListN.{length, set, drop}
use Rattle.basics.proofs.FillLaws.{Filled, filled_byte}
use Rattle.put.specs.Text.{count_text}
use Rattle.put.proofs.TextLaws.{count_small}
use Rattle.put.proofs.OutputLaws.{written_all, filled_text, filled_done}
use Rattle.put.proofs.PlaceLaws.{PutAt, filled_at, at_all}
use Rattle.page.specs.Report.{bound_text, max_row}
use Rattle.page.specs.Pages.{word_text, spaced_last, row_of}
use Rattle.page.proofs.RowLaws.{word_most, row_parts}
use Rattle.page.proofs.row.put_row.Goals as goal
use Rattle.page.proofs.row.put_row.Goals.{After-unwrap_or, After-unwrap_or-a, After-spaced_bound-c, After-spaced_last-e, Start}

short : (s : goal.Start) → (length (count_text s.args.x.task.0) ≤ 10) × (length (count_text s.args.x.rounds) ≤ 10)
short s = (count_small s.args.x.task.0 (omega arith), count_small s.args.x.rounds (omega arith))

-- the number
counted : (c : goal.After-unwrap_or-a) → let a = c.args in
    (c.unwrap_or-a.result ≡ length (count_text a.x.task.0)) × (c.put_count.new.out ≡ count_text a.x.task.0 ++ drop c.unwrap_or-a.result a.out.now)
counted c =
    let a = c.args in
    let s = short (goal.at.After-unwrap_or-a c).Start in
    written_all (count_text a.x.task.0) a.out.now (omega (arith, s.0, c.requires)) c.unwrap_or-a.ensures c.put_count.ensures.0 c.put_count.ensures.1

far : (c : goal.After-unwrap_or-a) → (c.unwrap_or-a.result ≤ 10) × (max_row ≤ length c.args.out.now)
far c = omega (arith, (short (goal.at.After-unwrap_or-a c).Start).0, (counted c).0, c.requires)

pub spaced_word-b-requires : goal.spaced_word-b-requires
spaced_word-b-requires c = omega (arith, far (goal.at.spaced_word-b-requires c).After-unwrap_or-a, word_most c.args.cells.0)

pub spaced_bound-c-requires : goal.spaced_bound-c-requires
spaced_bound-c-requires c = omega (arith, far (goal.at.spaced_bound-c-requires c).After-unwrap_or-a, word_most c.args.cells.0)

bounded : (c : goal.After-spaced_bound-c) → let a = c.args in
    Filled a.out.now c.spaced_bound-c.new.out ((count_text a.x.task.0 ++ 32 ∷ word_text a.cells.0) ++ 32 ∷ bound_text a.cells.1) c.spaced_bound-c.result
bounded c =
    let a = c.args in
    let f₀ = filled_text (count_text a.x.task.0) c.put_count.auto.out (counted (goal.at.After-spaced_bound-c c).After-unwrap_or-a) in
    let f₁ = filled_at f₀ (32 ∷ word_text a.cells.0) c.spaced_word-b.auto.out c.spaced_word-b.ensures in
    filled_at f₁ (32 ∷ bound_text a.cells.1) c.spaced_bound-c.auto.out c.spaced_bound-c.ensures.value

-- what is still to come ends within the longest row
rest : (c : goal.After-spaced_bound-c) → (c.spaced_bound-c.result + 23 + length (count_text c.args.x.rounds) ≤ max_row) × (max_row ≤ length c.args.out.now)
rest c =
    let e = goal.at.After-spaced_bound-c c in
    omega (arith, far e.After-unwrap_or-a, (short e.Start).1, word_most c.args.cells.0, c.spaced_word-b.ensures.0, c.spaced_bound-c.ensures.upper_bound)

rounds : (c : goal.After-unwrap_or) → let r = c.spaced_bound-c.result in
    PutAt (32 ∷ count_text c.args.x.rounds) r (r + c.unwrap_or.result) c.spaced_bound-c.new.out c.spaced_count.new.out
rounds c =
    let e = (goal.at.After-unwrap_or c).After-spaced_bound-c in
    at_all (32 ∷ count_text c.args.x.rounds) c.spaced_bound-c.new.out c.spaced_bound-c.result (omega (arith, rest e, (bounded e).kept)) c.unwrap_or.ensures c.spaced_count.ensures

filled : (c : goal.After-spaced_last-e) → let a = c.args in
    Filled a.out.now (set c.spaced_last-e.new.out c.spaced_last-e.result 10) (((((count_text a.x.task.0 ++ 32 ∷ word_text a.cells.0) ++ 32 ∷ bound_text a.cells.1) ++ 32 ∷ count_text a.x.rounds) ++ spaced_last a.last) ++ 10 ∷ []) (c.spaced_last-e.result + 1)
filled c =
    let a = c.args in
    let e = goal.at.After-spaced_last-e c in
    let put = rounds e.After-unwrap_or in
    let f₃ = filled_at (bounded e.After-spaced_bound-c) (32 ∷ count_text a.x.rounds) c.spaced_count.auto.out put in
    let f₄ = filled_at f₃ (spaced_last a.last) c.spaced_last-e.auto.out c.spaced_last-e.ensures.value in
    filled_byte f₄ 10 (omega (arith, rest e.After-spaced_bound-c, put.0, c.spaced_last-e.ensures.upper_bound))

pub overflow_add-d : goal.overflow_add-d
overflow_add-d c = omega (arith, rest (goal.at.overflow_add-d c).After-spaced_bound-c, (rounds (goal.at.overflow_add-d c).After-unwrap_or).0)

pub spaced_last-e-requires : goal.spaced_last-e-requires
spaced_last-e-requires c = omega (arith, rest (goal.at.spaced_last-e-requires c).After-spaced_bound-c, (rounds (goal.at.spaced_last-e-requires c).After-unwrap_or).0, (bounded (goal.at.spaced_last-e-requires c).After-spaced_bound-c).kept, c.spaced_count.auto.out)

pub bounds-out-e : goal.bounds-out-e
bounds-out-e c = omega (arith, (filled (goal.at.bounds-out-e c).After-spaced_last-e).kept, rest (goal.at.bounds-out-e c).After-spaced_bound-c, (rounds (goal.at.bounds-out-e c).After-unwrap_or).0, c.spaced_last-e.ensures.upper_bound)

pub overflow_add-result : goal.overflow_add-result
overflow_add-result c = omega (arith, rest (goal.at.overflow_add-result c).After-spaced_bound-c, (rounds (goal.at.overflow_add-result c).After-unwrap_or).0, c.spaced_last-e.ensures.upper_bound)

pub returns : goal.returns
returns c =
    let a = c.args in
    record { value = filled_done (row_of a.x a.cells a.last) (row_parts a.x a.cells a.last) (filled (goal.at.returns c).After-spaced_last-e); upper_bound = omega (arith, rest (goal.at.returns c).After-spaced_bound-c, (rounds (goal.at.returns c).After-unwrap_or).0, c.spaced_last-e.ensures.upper_bound) }
