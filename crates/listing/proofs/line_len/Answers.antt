-- `listing::line_len` meets its contract. Assumes nothing.
use Rattle.std.proofs.Common.{◌≡◌, ℕ, ◌<◌, ◌≤◌, Bool, true, false, cond, eqb, ltb, Option, Some, None, length, refl, rules, tests, arith}
use Rattle.std.proofs.lemmas.Iterator.{YieldsList-from_slice}
use Rattle.std.proofs.lemmas.Iterator.Search.{position_from_yields_List}
use borrow.Author.Tests.{ltb-true, ltb-false}
use Rattle.std.specs.Option.{MatchOption}
use Rattle.listing.specs.FirstLine.{line}
use Rattle.listing.proofs.LineLaws.{line_position, line_within}
use Rattle.listing.proofs.line_len.Goals as goal

placed : (n m : ℕ) (r : Option ℕ) → n ≤ m → r ≡ cond (ltb n m) (Some n) None → MatchOption r (n ≡ m) (λ i. (i ≡ n) × (i < m))
placed n m r h e = rw e (go (ltb n m) refl)
  where
    go : (b : Bool) → ltb n m ≡ b → MatchOption (cond b (Some n) None) (n ≡ m) (λ i. (i ≡ n) × (i < m))
    go true t = (refl, ltb-true n m t)
    go false t = let l = ltb-false n m t in omega arith

pub returns : goal.returns
returns c =
    let s = c.args.s.now in
    let p = position_from_yields_List (λ b. eqb b 10) _ _ _ c.position.ensures.ran (YieldsList-from_slice s cc) (λ x b q k. search (rules, tests)) in
    placed (length (line s)) (length s) _ (line_within s) (rw (line_position s) at p)
