use Rattle.std.proofs.Common.{rules, ◌≡◌, refl, sym, ◌∙◌, arith}
use lib.Seq.{length-take-le}
use Rattle.table.specs.Faults.{first_fault}
use Rattle.table.proofs.FirstLaws.{first_more, first_at}
use Rattle.card.specs.Archive.{block_fault_at, blocks_fault}
use Rattle.card.proofs.ArchiveLaws.{length_whole}
use Rattle.card.proofs.WalkLaws.{none_passed, next_is, next_passed, all_passed}
use Rattle.card.proofs.reading.check_blocks.Goals as goal
use Rattle.card.proofs.reading.check_blocks.Goals.{After-check_block}

pub slice_bounds-head_of-end : goal.slice_bounds-head_of-end
slice_bounds-head_of-end c = let w = length_whole _ c.requires in sym (length-take-le 512 c.args.a.now (omega arith))

pub overflow_cast-n : goal.overflow_cast-n
overflow_cast-n c = let w = length_whole _ c.requires in omega arith

pub loop-i-init : goal.loop-i-init
unfolding first_fault
loop-i-init c =
    let e = c.into_iter-i-iterator.ensures.into_iter_gives in
    let f = c.enumerate-i-items.ensures in
    let g = c.chunks_exact.ensures in
    rw (e, f.source, f.count) (none_passed refl g.rest g.size, refl)

pub overflow_cast-i : goal.overflow_cast-i
overflow_cast-i c = let w = length_whole _ c.requires in omega (arith, c.in-Some.ensures.steps.1, c.loop-i.invariant.0.within)

pub overflow_add-i : goal.overflow_add-i
overflow_add-i c = let w = length_whole _ c.requires in omega (arith, c.in-Some.ensures.steps.1, c.loop-i.invariant.0.within)

-- what is found of a block is its fault
found : (c : goal.After-check_block) → c.check_block.result ≡ block_fault_at c.args.a.now c.loop-i.i-iterator.count
found c =
    let s = c.in-Some.ensures.steps in
    c.check_block.ensures ∙ rw (c.head_of-first.ensures, s.1, next_is c.loop-i.invariant.0 _ _ s.0.1)

pub loop-i-preserved : goal.loop-i-preserved
loop-i-preserved c =
    let s = c.in-Some.ensures.steps in
    (next_passed c.loop-i.invariant.0 _ _ s.0.1 s.2 s.0.0, rw (s.2, first_more, c.loop-i.invariant.1) (sym (found (goal.at.loop-i-preserved c).After-check_block) ∙ c.in_ok-check_block.was))

pub returns-in_err-check_block : goal.returns-in_err-check_block
unfolding blocks_fault
returns-in_err-check_block c =
    let s = c.in-Some.ensures.steps in
    let e : c.from_residual.result ≡ c.check_block.result = search rules in
    let p = next_passed c.loop-i.invariant.0 _ _ s.0.1 s.2 s.0.0 in
    e ∙ c.in_err-check_block.was
    ∙ sym (first_at _ c.loop-i.i-iterator.count _ _ (omega (arith, s.2, p.within)) c.loop-i.invariant.1 (sym (found (goal.at.returns-in_err-check_block c).After-check_block) ∙ c.in_err-check_block.was))

pub returns : goal.returns
unfolding blocks_fault
returns c =
    let e = all_passed c.loop-i.invariant.0 c.in-None.ensures.steps.0.1.0 in
    rw (← e) (sym c.loop-i.invariant.1)
