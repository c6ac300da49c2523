-- `checking::later` meets its contract. Assumes nothing.
use borrow.Author.Tests.{lt-ltb, le-ltb}
use Rattle.checking.proofs.later.Goals as goal

pub returns-then-alpha-gt0 : goal.returns-then-alpha-gt0
returns-then-alpha-gt0 c = simp (lt-ltb _ _ c.if-alpha-gt0.true)

pub returns-else-alpha-gt0 : goal.returns-else-alpha-gt0
returns-else-alpha-gt0 c = simp (le-ltb _ _ c.if-alpha-gt0.false)
