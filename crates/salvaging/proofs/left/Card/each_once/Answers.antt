-- `salvaging::left::Card::each_once` meets its contract. Assumes nothing.
use Rattle.std.proofs.Common.{◌≡◌, ℕ, ◌+◌, true, false, Bool, eqb, arith, rules, refl}
use Rattle.std.proofs.lemmas.Iterator.{cases_from_all, YieldsList-from_range}
use borrow.Author.Tests.{tests}
use Rattle.salvaging.specs.Salvage.{how_many, each_once}
use Rattle.salvaging.proofs.RangeLaws.{range_all}
use Rattle.salvaging.proofs.left.Card.each_once.Goals as goal

pub returns : goal.returns
unfolding each_once
returns c =
    let s = c.args.self.now in
    let n = c.args.n in
    let test : ℕ → Bool = λ p. eqb (how_many s.input.now s.codes.now (p + 1)) 1 in
    range_all n test _ (cases_from_all _ _ _ (λ x. test x ≡ true) (λ x. test x ≡ false) c.all.ensures.ran (YieldsList-from_range 0 n n refl (omega arith)) (λ x q k. search (rules, tests)) (λ x q k. search (rules, tests)))
