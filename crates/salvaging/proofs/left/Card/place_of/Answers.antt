-- `salvaging::left::Card::place_of` meets its contract. Assumes nothing.
use Rattle.std.proofs.Common.{◌≡◌, ◌∙◌, true, false, length, rules}
use Rattle.std.proofs.lemmas.Iterator.{first_from_Range}
use borrow.Author.Tests.{tests}
use Rattle.salvaging.specs.Salvage.{left_with, place_of}
use Rattle.salvaging.proofs.RangeLaws.{range_find}
use Rattle.salvaging.proofs.left.Card.place_of.Goals as goal

pub returns : goal.returns
unfolding place_of
returns c =
    let a = c.args in
    let s = a.self.now in
    let test = left_with s.input.now s.codes.now a.number in
    c.unwrap_or.ensures ∙ range_find (length s.codes.now) test _ (first_from_Range _ _ _ _ (λ x. test x ≡ true) (λ x. test x ≡ false) c.find.ensures.ran (λ x q k. search (rules, tests)) (λ x q k. search (rules, tests)))
