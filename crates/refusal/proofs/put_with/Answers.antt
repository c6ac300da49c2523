-- `refusal::put_with` meets its contract: what is copied is the line. Assumes nothing.
use Prim.Native.Nat.{◌≤◌}
use mathlib.Core.Path.{◌≡◌, sym, ap, ◌∙◌}
use lib.ListN.{length, take}
use lib.Seq.{take_at, length-take-le}
use Rattle.put.proofs.OutputLaws.{text_within}
use Rattle.refusal.specs.Refusal.{refusal_with}
use Rattle.refusal.proofs.put_with.Goals as goal
use Rattle.refusal.proofs.put_with.Goals.{After-build-n}

built : (c : goal.After-build-n) → c.build-n.result ≤ length c.build-n.new.line
built c = text_within (refusal_with c.args.word.now c.args.r) _ c.build-n.ensures.0 c.build-n.ensures.1

line : (c : goal.After-build-n) → take c.build-n.result c.build-n.new.line ≡ refusal_with c.args.word.now c.args.r
line c = ap (take c.build-n.result) c.build-n.ensures.1 ∙ take_at _ _ _ (sym c.build-n.ensures.0)

pub slice_bounds-line-end : goal.slice_bounds-line-end
slice_bounds-line-end c = built (goal.at.slice_bounds-line-end c).After-build-n

pub slice_bounds-put_text-end : goal.slice_bounds-put_text-end
slice_bounds-put_text-end c = sym (length-take-le _ _ (built (goal.at.slice_bounds-put_text-end c).After-build-n))

pub returns : goal.returns
returns c =
    rw (← line (goal.at.returns c).After-build-n) c.put_text.ensures
