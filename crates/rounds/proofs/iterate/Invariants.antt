-- `rounds::iterate` meets its contract. The invariant: what the rounds left come to from t on, after those used, all come to from C on. Assumes nothing.
use Rattle.std.proofs.Common.{◌-◌}
use Rattle.rounds.proofs.RoundLaws.{Sought}
use Rattle.rounds.proofs.iterate.Given as goal

abbrev pub invariant-loop-wholes : goal.invariant-loop-wholes
invariant-loop-wholes l = Sought l.s l.deadline l.allowance l.t l.used

abbrev pub decreases-loop-wholes : goal.decreases-loop-wholes
decreases-loop-wholes l = l.allowance - l.used
