-- `rounds::strides::even_reach` meets its contract. Assumes nothing.
use Rattle.std.proofs.Common.{arith}
use Rattle.rounds.specs.Parts.{loads}
use Rattle.rounds.proofs.StrideLaws.{rises_evenly}
use Rattle.rounds.proofs.strides.even_reach.Goals as goal

pub returns : goal.returns
returns c =
    let w = c.args.wholes.now in
    let d = c.args.divided.now in
    rises_evenly (loads w.of w.n) (loads d.of d.n) c.args.t c.requires.0 c.course-whole.ensures c.course-part.ensures (omega arith) (omega arith) (omega arith)
