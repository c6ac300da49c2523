-- `salvaging::left::Card::left` meets its contract. Assumes nothing.
use Rattle.std.proofs.Common.{ℕ, ◌∙◌, Bool, leb, length, arith, rules, sym, ap}
use lib.Seq.{take_all}
use Rattle.std.specs.List.{filter}
use Rattle.std.proofs.lemmas.Iterator.{YieldsList-from_slice}
use Rattle.std.proofs.lemmas.Iterator.Consumers.{YieldsList-from_filter, count_from_yields_List}
use borrow.Author.Tests.{tests}
use Rattle.basics.proofs.EachLaws.{count_is}
use Rattle.salvaging.specs.Salvage.{left_in}
use Rattle.salvaging.proofs.left.Card.left.Goals as goal

pub returns : goal.returns
unfolding left_in
returns c =
    let xs = c.args.self.now.codes.now in
    let test : ℕ → Bool = λ x. leb 2 x in
    count_from_yields_List c.filter.result _ c.count.ensures.ran (YieldsList-from_filter _ test (YieldsList-from_slice xs cc) c.filter.ensures.closure (λ x r q k. search (rules, tests)))
    ∙ ap (λ ys. length (filter test ys)) (sym (take_all (length xs) xs (omega arith)))
    ∙ count_is (length xs) 0 test xs (omega arith)
