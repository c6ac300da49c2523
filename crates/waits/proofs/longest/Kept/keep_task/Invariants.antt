-- `waits::longest::Kept::keep_task` meets its contract. The loop's invariant: the requests for the resources from slot k on are kept. Assumes nothing.
use Rattle.waits.specs.Kept.{KeptWith}
use Rattle.waits.proofs.KeyLaws.{keys_rest}
use Rattle.waits.proofs.longest.Kept.keep_task.Given as goal

abbrev pub invariant-loop-k : goal.invariant-loop-k
invariant-loop-k l = KeptWith (keys_rest l.x l.k) l.initial.self.of l.initial.self.n l.self.n l.self.of
