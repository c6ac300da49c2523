use Rattle.std.proofs.Common.{refl, sym, ap, ◌∙◌, arith}
use lib.Seq.{length-take-le}
use Rattle.card.proofs.ArchiveLaws.{length_whole, table_to, table_start, table_more, table_done}
use Rattle.card.proofs.WalkLaws.{none_passed, next_is, next_passed, all_passed}
use Rattle.card.proofs.reading.table_of.Goals as goal

pub slice_bounds-head_of-end : goal.slice_bounds-head_of-end
slice_bounds-head_of-end c = let w = length_whole _ c.requires in sym (length-take-le 512 c.args.a.now (omega arith))

pub loop-i-init : goal.loop-i-init
loop-i-init c =
    let e = c.into_iter-i-iterator.ensures.into_iter_gives in
    let f = c.enumerate-i-items.ensures in
    let g = c.chunks_exact.ensures in
    rw (e, f.source, f.count) (none_passed refl g.rest g.size, table_start _ c.empty.ensures c.head_of-first.ensures)

pub bounds-t-i : goal.bounds-t-i
bounds-t-i c =
    let s = c.in-Some.ensures.steps in
    let w = length_whole _ c.requires in
    let p = next_passed c.loop-i.invariant.0 _ _ s.0.1 s.2 s.0.0 in
    omega (arith, s.1, s.2, p.within)

pub loop-i-preserved : goal.loop-i-preserved
loop-i-preserved c =
    let s = c.in-Some.ensures.steps in
    let w = length_whole _ c.requires in
    let p = next_passed c.loop-i.invariant.0 _ _ s.0.1 s.2 s.0.0 in
    (p, rw (s.1, s.2) (table_more _ c.loop-i.i-iterator.count (omega (arith, s.2, p.within)) c.loop-i.invariant.1 (c.task_of.ensures ∙ rw (next_is c.loop-i.invariant.0 _ _ s.0.1))))

pub returns : goal.returns
returns c =
    let w = length_whole _ c.requires in
    let e = all_passed c.loop-i.invariant.0 c.in-None.ensures.steps.0.1.0 in
    c.loop-i.invariant.1 ∙ ap (table_to c.args.a.now) e ∙ table_done _ w.2
