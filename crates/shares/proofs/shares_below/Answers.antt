use Rattle.std.proofs.Common.{arith, refl}
use Rattle.std.proofs.lemmas.Grind.{common_steps}
use Rattle.shares.proofs.PeakLaws.{peaks_none, peaks_more}
use Rattle.shares.proofs.shares_below.Goals as goal

pub loop-j-init : goal.loop-j-init
loop-j-init c =
    record { kept = λ q h. refl; each = λ q g h. absurd (omega arith); rest = λ q h. refl; long = omega arith; peaks = peaks_none c.args.t.now c.args.i }

pub loop-j-preserved : goal.loop-j-preserved
loop-j-preserved c =
    let i = c.loop-j.invariant in
    record {
      kept = grind (arith, common_steps);
      each = grind (arith, common_steps);
      rest = grind (arith, common_steps);
      long = grind (arith, common_steps);
      peaks = peaks_more c.args.t.now c.args.i c.loop-j.j c.loop-j.peaks c.raise_peaks.new.peaks (omega arith) i.peaks c.raise_peaks.ensures;
    }
