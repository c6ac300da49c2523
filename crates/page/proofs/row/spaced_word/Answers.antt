-- `page::row::spaced_word` meets its contract: by the three cases, the callee's. Assumes nothing.
use Rattle.page.proofs.row.spaced_word.Goals as goal

pub spaced-requires : goal.spaced-requires
spaced-requires c = rw c.in-Meets.is at c.requires

pub spaced-requires-in-Misses : goal.spaced-requires-in-Misses
spaced-requires-in-Misses c = rw c.in-Misses.is at c.requires

pub spaced-requires-in-Open : goal.spaced-requires-in-Open
spaced-requires-in-Open c = rw c.in-Open.is at c.requires

pub returns-in-Meets : goal.returns-in-Meets
returns-in-Meets c = rw c.in-Meets.is c.spaced.ensures

pub returns-in-Misses : goal.returns-in-Misses
returns-in-Misses c = rw c.in-Misses.is c.spaced-in-Misses.ensures

pub returns-in-Open : goal.returns-in-Open
returns-in-Open c = rw c.in-Open.is c.spaced-in-Open.ensures
