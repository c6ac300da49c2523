-- `refusal::build` meets its contract: each part is put where the one before it ended, at most 56 bytes. Assumes nothing.
use mathlib.Core.List.{append_assoc}
use native.Mathlib.Omega.{arith}
use Rattle.basics.specs.Text.{bytes}
use Rattle.put.specs.Text.{count_text}
use Rattle.put.proofs.TextLaws.{count_most}
use Rattle.put.proofs.OutputLaws.{written_all, Upto, upto_first, upto_more, upto_in, upto_room, upto_done}
use Rattle.refusal.specs.Refusal.{refusal_with}
use Rattle.refusal.proofs.build.Goals as goal
use Rattle.refusal.proofs.build.Goals.{After-unwrap_or, After-unwrap_or-2, After-unwrap_or-3, After-unwrap_or-4, After-unwrap_or-a}

-- the output after each part
abbrev one : (c : goal.After-unwrap_or-a) → Upto c.args.line.now 8
one c =
    upto_first (bytes "refused ") c.put_text.auto.out (written_all (bytes "refused ") _ (omega (arith, c.requires.0)) c.unwrap_or-a.ensures c.put_text.ensures.0 c.put_text.ensures.1) (omega arith)

abbrev two : (c : goal.After-unwrap_or) → Upto c.args.line.now 28
two c =
    let u = one (goal.at.After-unwrap_or c).After-unwrap_or-a in
    let n = c.number.result in
    upto_more u (count_text n) c.put_count.auto.out
    (written_all (count_text n) _ (omega (arith, count_most n, upto_room 20 u (omega (arith, c.requires.0)))) c.unwrap_or.ensures c.put_count.ensures.0 c.put_count.ensures.1) (omega (arith, c.requires.0)) (omega (arith, count_most n))

abbrev three : (c : goal.After-unwrap_or-2) → Upto c.args.line.now 35
three c =
    let u = two (goal.at.After-unwrap_or-2 c).After-unwrap_or in
    let t = c.args.word.now in
    upto_more u t c.put_text-2.auto.out
    (written_all t _ (omega (arith, c.requires.1, upto_room 7 u (omega (arith, c.requires.0)))) c.unwrap_or-2.ensures c.put_text-2.ensures.0 c.put_text-2.ensures.1) (omega (arith, c.requires.0)) (omega (arith, c.requires.1))

abbrev four : (c : goal.After-unwrap_or-3) → Upto c.args.line.now 55
four c =
    let u = three (goal.at.After-unwrap_or-3 c).After-unwrap_or-2 in
    let n = c.args.r.place in
    upto_more u (count_text n) c.put_count-2.auto.out
    (written_all (count_text n) _ (omega (arith, count_most n, upto_room 20 u (omega (arith, c.requires.0)))) c.unwrap_or-3.ensures c.put_count-2.ensures.0 c.put_count-2.ensures.1) (omega (arith, c.requires.0)) (omega (arith, count_most n))

abbrev five : (c : goal.After-unwrap_or-4) → Upto c.args.line.now 56
five c =
    let u = four (goal.at.After-unwrap_or-4 c).After-unwrap_or-3 in
    upto_more u (bytes "\n") c.put_text-3.auto.out
    (written_all (bytes "\n") _ (omega (arith, upto_room 1 u (omega (arith, c.requires.0)))) c.unwrap_or-4.ensures c.put_text-3.ensures.0 c.put_text-3.ensures.1) (omega (arith, c.requires.0)) (omega arith)

pub slice_bounds-put_count-count : goal.slice_bounds-put_count-count
slice_bounds-put_count-count c = upto_in (one (goal.at.slice_bounds-put_count-count c).After-unwrap_or-a) (omega (arith, c.requires.0))

pub slice_bounds-put_count-start : goal.slice_bounds-put_count-start
slice_bounds-put_count-start c = upto_in (one (goal.at.slice_bounds-put_count-start c).After-unwrap_or-a) (omega (arith, c.requires.0))

pub overflow_add-b : goal.overflow_add-b
overflow_add-b c = omega (arith, (two (goal.at.overflow_add-b c).After-unwrap_or).few)

pub slice_bounds-put_text-count : goal.slice_bounds-put_text-count
slice_bounds-put_text-count c = upto_in (two (goal.at.slice_bounds-put_text-count c).After-unwrap_or) (omega (arith, c.requires.0))

pub slice_bounds-put_text-start : goal.slice_bounds-put_text-start
slice_bounds-put_text-start c = upto_in (two (goal.at.slice_bounds-put_text-start c).After-unwrap_or) (omega (arith, c.requires.0))

pub overflow_add-c : goal.overflow_add-c
overflow_add-c c = omega (arith, (three (goal.at.overflow_add-c c).After-unwrap_or-2).few)

pub slice_bounds-put_count-count-2 : goal.slice_bounds-put_count-count-2
slice_bounds-put_count-count-2 c = upto_in (three (goal.at.slice_bounds-put_count-count-2 c).After-unwrap_or-2) (omega (arith, c.requires.0))

pub slice_bounds-put_count-start-2 : goal.slice_bounds-put_count-start-2
slice_bounds-put_count-start-2 c = upto_in (three (goal.at.slice_bounds-put_count-start-2 c).After-unwrap_or-2) (omega (arith, c.requires.0))

pub overflow_add-d : goal.overflow_add-d
overflow_add-d c = omega (arith, (four (goal.at.overflow_add-d c).After-unwrap_or-3).few)

pub slice_bounds-put_text-count-2 : goal.slice_bounds-put_text-count-2
slice_bounds-put_text-count-2 c = upto_in (four (goal.at.slice_bounds-put_text-count-2 c).After-unwrap_or-3) (omega (arith, c.requires.0))

pub slice_bounds-put_text-start-2 : goal.slice_bounds-put_text-start-2
slice_bounds-put_text-start-2 c = upto_in (four (goal.at.slice_bounds-put_text-start-2 c).After-unwrap_or-3) (omega (arith, c.requires.0))

pub overflow_add-result : goal.overflow_add-result
overflow_add-result c = omega (arith, (five (goal.at.overflow_add-result c).After-unwrap_or-4).few)

pub returns : goal.returns
unfolding refusal_with
returns c =
    upto_done (refusal_with c.args.word.now c.args.r) (five (goal.at.returns c).After-unwrap_or-4) (rw (← c.number.ensures) (simp append_assoc))
