-- `salvaging::fates::is_doubled` meets its contract. Assumes nothing.
use Rattle.std.proofs.Common.{◌≡◌, ℕ, ◌∙◌, true, false, Bool, arith, rules, refl}
use Rattle.std.proofs.lemmas.Iterator.{cases_from_any, YieldsList-from_range}
use borrow.Author.Tests.{tests}
use Rattle.card.specs.Archive.{block_at}
use Rattle.salvaging.specs.Fates.{same_bytes}
use Rattle.salvaging.proofs.FateLaws.{good_same}
use Rattle.salvaging.proofs.RangeLaws.{range_any}
use Rattle.salvaging.proofs.fates.is_doubled.Goals as goal

pub returns : goal.returns
returns c g =
    let s = c.args.input.now in
    let n = c.args.i in
    let test : ℕ → Bool = λ j. same_bytes (block_at s j) (block_at s n) in
    range_any n test _ (cases_from_any _ _ _ (λ x. test x ≡ true) (λ x. test x ≡ false) c.any.ensures.ran (YieldsList-from_range 0 n n refl (omega arith)) (λ x q k. search (rules, tests)) (λ x q k. search (rules, tests)))
    ∙ good_same s n g
