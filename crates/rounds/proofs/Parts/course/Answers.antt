use Rattle.std.proofs.Common.{◌+◌, ◌∙◌, sym, ap, take, arith}
use Rattle.std.proofs.lemmas.Grind.{common_steps}
use Rattle.std.proofs.lemmas.List.Sums.{sum_by_more}
use Rattle.rounds.specs.Parts.{part_load, loads}
use Rattle.rounds.proofs.StrideLaws.{course_more, course_same}
use Rattle.rounds.proofs.Parts.course.Goals as goal

pub loop-part-init : goal.loop-part-init
loop-part-init g c = record { few = omega arith; straight = λ g h. omega arith }

pub loop-part-preserved : goal.loop-part-preserved
loop-part-preserved g c =
    let p = c.args.self.now in
    let xs = take p.n p.of in
    let i = c.loop-part.part-index in
    let e = c.part-item.result in
    course_more c.loop-part.invariant c.course.ensures
    (λ s. sum_by_more (λ e. part_load e s) xs i e c.loop-part-test.true ∙ ap (λ e. loads xs i s + part_load e s) (sym c.part-item.is))
    c.and-sum.ensures.0 c.and-sum.ensures.1

pub returns : goal.returns
returns g c = course_same c.loop-part.invariant (omega arith) (λ s. grind (arith, common_steps))
