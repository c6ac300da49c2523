-- `salvaging::left::Card::how_many` meets its contract. Assumes nothing.
use Rattle.std.proofs.Common.{◌∙◌, length, arith, rules}
use Rattle.std.proofs.lemmas.Iterator.{YieldsList-from_range}
use Rattle.std.proofs.lemmas.Iterator.Consumers.{YieldsList-from_filter, count_from_yields_List}
use borrow.Author.Tests.{tests}
use Rattle.salvaging.specs.Salvage.{left_with, how_many}
use Rattle.salvaging.proofs.RangeLaws.{range_count}
use Rattle.salvaging.proofs.left.Card.how_many.Goals as goal

pub returns : goal.returns
unfolding how_many
returns c =
    let a = c.args in
    let s = a.self.now in
    let n = length s.codes.now in
    let test = left_with s.input.now s.codes.now a.number in
    count_from_yields_List c.filter.result _ c.count.ensures.ran (YieldsList-from_filter _ test (YieldsList-from_range 0 n n c.filter.ensures.source (omega arith)) c.filter.ensures.closure (λ x r q k. search (rules, tests)))
    ∙ range_count n test
