-- `rounds::Part::course` meets its contract, case by case. Assumes nothing.
use Rattle.std.proofs.Common.{arith}
use Rattle.rounds.proofs.StrideLaws.{goes_full, goes_running, goes_capped, goes_flat}
use Rattle.rounds.proofs.Part.course.Goals as goal

pub returns-then-self : goal.returns-then-self
returns-then-self c =
    record { few = omega arith; straight = goes_full c.args.self.now c.args.t c.if-self.true _ }

pub returns-then-since-self : goal.returns-then-since-self
returns-then-since-self c =
    record { few = omega arith; straight = goes_running c.args.self.now c.args.t c.gone-since.ensures (omega arith) }

pub returns-then-t-load : goal.returns-then-t-load
returns-then-t-load c =
    record { few = omega arith; straight = goes_capped c.args.self.now c.args.t (omega (arith, c.uncapped-load.ensures.is)) }

pub returns : goal.returns
returns c =
    let r = c.gone-since.ensures in
    let u = c.uncapped-load.ensures in
    record {
      few = omega arith;
      straight = goes_flat c.args.self.now c.args.t r (omega (arith, u.is)) (omega arith) (omega (arith, r.less));
    }
