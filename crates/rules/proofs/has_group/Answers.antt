use Rattle.std.proofs.Common.{◌≡◌, ℕ, true, false, eqb, rules}
use Rattle.std.proofs.lemmas.Iterator.{cases_from_any, YieldsList-from_slice}
use borrow.Author.Tests.{tests}
use Rattle.basics.proofs.EachLaws.{some_is}
use Rattle.table.specs.Rules.{has_group}
use Rattle.rules.proofs.has_group.Goals as goal

pub returns : goal.returns
unfolding has_group
returns c =
    let test = λ (x : ℕ). eqb x 0 in
    some_is 16 0 test c.args.groups _ (search rules) (cases_from_any _ _ _ (λ x. test x ≡ false) (λ x. test x ≡ true) c.any.ensures.ran (YieldsList-from_slice c.args.groups cc) (λ x q k. search (rules, tests)) (λ x q k. search (rules, tests)))
