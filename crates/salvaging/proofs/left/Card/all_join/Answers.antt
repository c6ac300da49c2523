-- `salvaging::left::Card::all_join` meets its contract. Assumes nothing.
use Rattle.std.proofs.Common.{◌≡◌, true, false, length, arith, rules, refl}
use Rattle.std.proofs.lemmas.Iterator.{cases_from_all, YieldsList-from_range}
use borrow.Author.Tests.{tests}
use Rattle.salvaging.specs.Salvage.{may_join, all_join}
use Rattle.salvaging.proofs.RangeLaws.{range_all}
use Rattle.salvaging.proofs.left.Card.all_join.Goals as goal

pub returns : goal.returns
unfolding all_join
returns c =
    let a = c.args in
    let s = a.self.now in
    let n = length s.codes.now in
    let test = may_join s.input.now s.codes.now a.first in
    range_all n test _ (cases_from_all _ _ _ (λ x. test x ≡ true) (λ x. test x ≡ false) c.all.ensures.ran (YieldsList-from_range 0 n n refl (omega arith)) (λ x q k. search (rules, tests)) (λ x q k. search (rules, tests)))
