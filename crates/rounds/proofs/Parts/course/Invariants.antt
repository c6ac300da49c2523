-- `rounds::Parts::course` meets its contract. The invariant: how the sum so far goes on. Assumes nothing.
use Rattle.rounds.specs.Parts.{loads}
use Rattle.rounds.specs.Strides.{CourseIs}
use Rattle.rounds.proofs.Parts.course.Given as goal

abbrev pub invariant-loop-part : goal.invariant-loop-part
invariant-loop-part g l = CourseIs (loads l.part-items l.part-index) l.part-index l.t l.sum
