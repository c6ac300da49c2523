use Rattle.std.proofs.Common.{◌≡◌, ℕ, true, false, leb, rules}
use Rattle.std.proofs.lemmas.Iterator.{cases_from_all, YieldsList-from_slice}
use borrow.Author.Tests.{tests}
use Rattle.basics.proofs.EachLaws.{each_is}
use Rattle.table.specs.Limits.{max_group}
use Rattle.table.specs.Rules.{groups_in_range}
use Rattle.rules.proofs.groups_in_range.Goals as goal

pub returns : goal.returns
unfolding groups_in_range
returns c =
    let test = λ (x : ℕ). leb x max_group in
    each_is 16 0 test c.args.groups _ (search rules) (cases_from_all _ _ _ (λ x. test x ≡ true) (λ x. test x ≡ false) c.all.ensures.ran (YieldsList-from_slice c.args.groups cc) (λ x q k. search (rules, tests)) (λ x q k. search (rules, tests)))
