-- `rounds::Part::uncapped` meets its contract. The code is the definition, at the quotient that `quot` ensures. Assumes nothing.
use Rattle.std.proofs.Common.{◌≡◌, ◌+◌, ◌*◌, arith}
use Rattle.theory.specs.Work.{jobs}
use Rattle.rounds.specs.Parts.{part_uncapped}
use Rattle.rounds.proofs.QuotLaws.{jobs_fit}
use Rattle.rounds.proofs.Part.uncapped.Goals as goal

pub returns : goal.returns
unfolding jobs
returns c =
    let e = c.args.self.now in
    let is : c.quot-q.result * e.units + c.min.result ≡ part_uncapped e c.args.t = rw (c.min.ensures, c.quot-q.ensures) (omega arith) in
    record { is = is; fits = omega (arith, is, jobs_fit e.period e.units (c.args.t + e.off) e.good.units_period, e.good.near) }
