use Rattle.std.proofs.Common.{arith, refl}
use Rattle.std.proofs.lemmas.Grind.{common_steps}
use Rattle.shares.proofs.CeilingLaws.{ceilings_none, ceilings_more}
use Rattle.shares.proofs.shares_above.Goals as goal

pub loop-l-init : goal.loop-l-init
loop-l-init c =
    record { each = λ j h. absurd (omega arith); rest = λ j h. refl; long = omega arith; ceilings = ceilings_none c.args.t.now c.args.i c.requires }

pub loop-l-preserved : goal.loop-l-preserved
loop-l-preserved c =
    let i = c.loop-l.invariant in
    record {
      each = grind (arith, common_steps);
      rest = grind (arith, common_steps);
      long = grind (arith, common_steps);
      ceilings = ceilings_more c.args.t.now c.args.i c.loop-l.ceilings c.raise_ceilings.new.known c.loop-l.l (omega arith) i.ceilings c.raise_ceilings.ensures;
    }
