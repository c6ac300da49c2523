-- `waits::longest::waits_of` meets its contract. The loop's invariant: the requests of the tasks from slot i on are kept, and the waits of these tasks stored. Assumes nothing.
use mathlib.Core.Path.{◌≡◌}
use Rattle.waits.proofs.WaitLaws.{KeptFrom, waits_from}
use Rattle.waits.proofs.longest.waits_of.Given as goal

abbrev pub invariant-loop-i : goal.invariant-loop-i
invariant-loop-i l = KeptFrom l.m l.i l.kept.n l.kept.of × (l.waits ≡ waits_from l.m l.i)
