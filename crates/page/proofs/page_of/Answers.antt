-- `page::page_of` meets its contract: the reading, and where it says nothing the analysis of its table, and its waits. Assumes nothing.
use Rattle.std.proofs.Common.{sym, ◌∙◌, rules}
use Rattle.page.specs.Pages.{page_of}
use Rattle.page.proofs.page_of.Goals as goal

pub returns-in_err-t : goal.returns-in_err-t
unfolding page_of
returns-in_err-t c = rw (← c.read.ensures, c.in_err-t.was) (search rules)

pub returns-in_err-a : goal.returns-in_err-a
unfolding page_of
returns-in_err-a c =
    rw (← c.read.ensures, c.in_ok-t.was, sym c.analyse_all-a.ensures.0 ∙ c.in_err-a.was) (search rules)

pub returns : goal.returns
unfolding page_of
returns c =
    rw (c.column_of-waits.ensures, c.analyse_all-a.ensures.1, ← c.read.ensures, c.in_ok-t.was, sym c.analyse_all-a.ensures.0 ∙ c.in_ok-a.was)
