-- `salvaging::fates::block_at` meets its contract. Assumes nothing.
use Rattle.salvaging.proofs.BlockLaws.{part_is}
use Rattle.salvaging.proofs.fates.block_at.Goals as goal

pub returns : goal.returns
returns c = part_is c.args.input.now c.args.i
