-- `salvaging::left::Card::first_left` meets its contract. Assumes nothing.
use Rattle.std.proofs.Common.{◌≡◌, ℕ, ◌<◌, true, false, Option, Some, None, MatchOption, List, leb, length, arith, rules, sym}
use Rattle.std.specs.List.{AllWithin, HoldsAt}
use Rattle.std.proofs.lemmas.Iterator.{IsFirst-from_position, YieldsList-from_slice}
use borrow.Author.Tests.{tests}
use Rattle.basics.proofs.FirstIndexLaws.{first_by}
use Rattle.basics.proofs.CountLaws.{count_none}
use Rattle.basics.proofs.OnceLaws.{some_count}
use Rattle.salvaging.specs.Salvage.{left_at, left_in, first_left}
use Rattle.salvaging.proofs.left.Card.first_left.Goals as goal

found : (xs : List ℕ) (r : Option ℕ)
    → MatchOption r (AllWithin (λ x. leb 2 x ≡ false) xs 0 (length xs)) (λ i. (i < length xs) × HoldsAt (λ x. leb 2 x ≡ true) xs i × AllWithin (λ x. leb 2 x ≡ false) xs 0 i)
    → MatchOption r (left_in xs ≡ 0) (λ i. (0 < left_in xs) × (i < length xs) × (i ≡ first_left xs))
unfolding left_in first_left
found xs None h = count_none (length xs) (left_at xs) (λ i l. h i 0 (omega arith) l)
found xs (Some i) h = (some_count (length xs) i (left_at xs) h.0 (h.1 0), h.0, sym (first_by (length xs) (left_at xs) i (record { upto = omega (arith, h.0); clear = λ j l. h.2 j 0 (omega arith) l; found = λ l. h.1 0 })))

pub returns : goal.returns
returns c =
    let xs = c.args.self.now.codes.now in
    found xs _ (IsFirst-from_position _ _ _ (λ x. leb 2 x ≡ true) (λ x. leb 2 x ≡ false) c.position.ensures.ran (YieldsList-from_slice xs c.iter.ensures.rest) (λ x q k. search (rules, tests)) (λ x q k. search (rules, tests)))
