-- `rounds::Part::new` meets its contract. Each of the two multipliers divides, by QuotLaws. Assumes nothing.
use Rattle.rounds.proofs.QuotLaws.{short_good, long_good}
use Rattle.rounds.proofs.Part.new.Goals as goal
use Rattle.rounds.proofs.Part.new.Goals.{then-period-lt8192, else-period-lt8192}

pub invariant_of-result : goal.invariant_of-result
invariant_of-result c =
    elim c.if-period-lt8192.branch [
      | then-period-lt8192 w ↦ rw (w.shift-is, c.from.ensures) (record { good = short_good c.requires w.if-period-lt8192.true })
      | else-period-lt8192 w ↦ rw (w.shift-is, c.from.ensures) (record { good = long_good c.requires w.if-period-lt8192.false })
    ]
