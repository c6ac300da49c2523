-- `salvage::text::put_refused` meets its contract: a refusal's line fits. Assumes nothing.
use native.Mathlib.Omega.{arith}
use Rattle.put.proofs.OutputLaws.{written_all}
use Rattle.refusal.specs.declared.Source.TheVariants.{Card}
use Rattle.refusal.proofs.LineLaws.{refusal_most}
use Rattle.salvage.proofs.text.put_refused.Goals as goal

pub returns-in-Err : goal.returns-in-Err
returns-in-Err c =
    rw c.in-Err.is
    (written_all _ c.args.out.now (omega (arith, refusal_most Card c.in-Err.r)) c.unwrap_or.ensures c.put_refusal.ensures.0 c.put_refusal.ensures.1)
