-- `rounds::Parts::push` meets its contract. Assumes nothing.
use Rattle.std.proofs.Common.{arith}
use Rattle.rounds.proofs.PackLaws.{load_more, load_same}
use Rattle.rounds.proofs.Parts.push.Goals as goal

pub returns-then-counted-gt0 : goal.returns-then-counted-gt0
returns-then-counted-gt0 g c =
    record {
      one = omega arith;
      are = λ t h. load_more c.args.self.now.of c.args.self.now.n t (omega arith) c.requires.sound.units_deadline c.new.ensures h;
    }

pub returns-else-counted-gt0 : goal.returns-else-counted-gt0
returns-else-counted-gt0 g c =
    record { one = omega arith; are = λ t h. load_same c.args.share.now.period c.args.share.now.deadline c.args.self.now.of c.args.self.now.n t (omega arith) }
