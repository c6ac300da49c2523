use Prim.Native.Nat.{ℕ, ◌+◌, max}
use mathlib.Core.Path.{◌≡◌, ap, ◌∙◌}
use native.Mathlib.Omega.{arith}
use borrow.Author.Rules.{rules}
use lib.ListN.{get_or, set}
use Rattle.basics.specs.Over.{row_to}
use Rattle.basics.proofs.RowLaws.{row_at}
use Rattle.table.specs.declared.Pair.{Pair}
use Rattle.table.specs.Limits.{max_resources}
use Rattle.table.specs.Empty.{unused_pair}
use Rattle.table.specs.At.{a_pair, pair_of}
use Rattle.theory.specs.Merge.{slot_of, merged_pair, merged_task}
use Rattle.theory.proofs.MergeLaws.{slot_below}
use Rattle.merging.proofs.SlotLaws.{part_to, parts_none, parts_more, added, added_fits}
use Rattle.merging.proofs.merge_task.Goals as goal
use Rattle.merging.proofs.merge_task.Goals.{After-slot_of-k}

pub loop-j-init : goal.loop-j-init
loop-j-init c = search (rules, parts_none c.args.groups c.args.x)

-- what stands at the slot of the next resource
held : (c : goal.After-slot_of-k)
    → get_or c.loop-j.pairs c.slot_of-k.result unused_pair ≡ part_to c.args.groups c.args.x c.loop-j.j (slot_of c.args.groups c.loop-j.j)
held c =
    let g = c.args.groups in
    let x = c.args.x in
    (λ i. get_or (c.loop-j.invariant i) (c.slot_of-k.ensures.0 i) unused_pair) ∙ row_at max_resources (slot_of g c.loop-j.j) (part_to g x c.loop-j.j) unused_pair (slot_below g c.loop-j.j (search rules))

pub joined-requires : goal.joined-requires
joined-requires c =
    rw (held (goal.at.joined-requires c).After-slot_of-k) (added_fits c.args.groups c.args.x c.requires c.loop-j.j (search rules))

pub loop-j-preserved : goal.loop-j-preserved
loop-j-preserved c =
    let g = c.args.groups in
    let x = c.args.x in
    let j = c.loop-j.j in
    let e : c.joined.result ≡ added g x j = c.joined.ensures ∙ ap (λ (p : Pair). a_pair (p.requests + (pair_of x j).requests) (max p.longest (pair_of x j).longest) (p.total + (pair_of x j).total)) (held (goal.at.loop-j-preserved c).After-slot_of-k) in
    (λ i. set (c.loop-j.invariant i) (c.slot_of-k.ensures.0 i) (e i)) ∙ parts_more g x j (search rules)

pub returns : goal.returns
unfolding merged_task merged_pair
returns c =
    let x = c.args.x in
    let n : c.loop-j.j ≡ max_resources = omega arith in
    let e : c.loop-j.pairs ≡ row_to max_resources (part_to c.args.groups x max_resources) =
    c.loop-j.invariant ∙ ap (λ (j : ℕ). row_to max_resources (part_to c.args.groups x j)) n in
    λ i. record { period = x.period; run = x.run; deadline = x.deadline; alpha = x.alpha; pairs = e i }
