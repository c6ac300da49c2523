-- `page::row::spaced` meets its contract: a space is put, and the rest of the output is lent. Assumes nothing.
use Prim.Native.Nat.{◌+◌}
use mathlib.Core.List.{◌∷◌, ◌++◌}
use native.Mathlib.Omega.{arith}
use lib.ListN.{set, take, length-set}
use Rattle.basics.proofs.FillLaws.{back_at, Filled}
use Rattle.put.proofs.PlaceLaws.{filled_within, filled_field, put_is}
use Rattle.page.proofs.row.spaced.Goals as goal
use Rattle.page.proofs.row.spaced.Goals.{After-unwrap_or}

filled : (c : goal.After-unwrap_or) → let a = c.args in
    Filled a.out.now (back_at (set a.out.now a.at 32) (a.at + 1) c.put_text.new.out) (take a.at a.out.now ++ 32 ∷ a.s.now) (a.at + 1 + c.unwrap_or.result)
filled c =
    filled_field c.args.out.now c.args.at c.args.s.now c.requires c.put_text.ensures.0 c.unwrap_or.ensures c.put_text.auto.out c.put_text.ensures.1

pub slice_bounds-put_text-count : goal.slice_bounds-put_text-count
slice_bounds-put_text-count c = simp length-set (omega arith)

pub slice_bounds-put_text-start : goal.slice_bounds-put_text-start
slice_bounds-put_text-start c = simp length-set (omega arith)

pub overflow_add-result : goal.overflow_add-result
overflow_add-result c = omega (arith, filled_within (filled (goal.at.overflow_add-result c).After-unwrap_or))

pub returns : goal.returns
returns c = put_is _ _ _ (omega arith) (filled (goal.at.returns c).After-unwrap_or)
