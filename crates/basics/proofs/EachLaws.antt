-- What a test of each of n elements comes to, by index: what `all` and `any` over a slice answer is what `all_to` says.
-- Assumes nothing.
use Rattle.std.proofs.Common.{◌≡◌, ℕ, zero, suc, ◌<◌, ◌≤◌, Bool, true, false, cond, List, length, get_or, take, refl, sym, ap, ◌∙◌, add-one, arith}
use Rattle.std.specs.Bool.{MatchBool}
use Rattle.std.specs.List.{AllWithin, HoldsAt, filter, count_by}
use Rattle.std.proofs.lemmas.List.Sums.{length-filter, sum_by_more}
use mathlib.Core.Bool.{not}
use Rattle.basics.specs.Choice.{only}
use Rattle.basics.specs.Over.{sum_to, count_to, all_to}
use Rattle.basics.proofs.AllLaws.{all_hold, all_fails}

pub each_is : {X : Type 0} (n : ℕ) (d : X) (p : X → Bool) (xs : List X) (r : Bool) → length xs ≡ n
    → MatchBool r (AllWithin (λ x. p x ≡ true) xs 0 (length xs)) ((k : ℕ) × (k < length xs) × HoldsAt (λ x. p x ≡ false) xs k)
    → r ≡ all_to n (λ k. p (get_or xs k d))
each_is n d p xs true e h = sym (all_hold n _ (λ k l. h k d (omega arith) (omega arith)))
each_is n d p xs false e (k, l, h) = sym (all_fails n k _ (omega arith) (h d))

-- one fails the test, where `any` looks for one that does
pub some_is : {X : Type 0} (n : ℕ) (d : X) (p : X → Bool) (xs : List X) (r : Bool) → length xs ≡ n
    → MatchBool r ((k : ℕ) × (k < length xs) × HoldsAt (λ x. p x ≡ false) xs k) (AllWithin (λ x. p x ≡ true) xs 0 (length xs))
    → r ≡ not (all_to n (λ k. p (get_or xs k d)))
some_is n d p xs true e (k, l, h) = ap not (sym (all_fails n k _ (omega arith) (h d)))
some_is n d p xs false e h = ap not (sym (all_hold n _ (λ k l. h k d (omega arith) (omega arith))))

-- how many of the first n pass it
pub count_is : {X : Type 0} (n : ℕ) (d : X) (p : X → Bool) (xs : List X) → n ≤ length xs → length (filter p (take n xs)) ≡ count_to n (λ k. p (get_or xs k d))
unfolding sum_to
count_is {X = X} n d p xs h = length-filter p (take n xs) ∙ go n h
  where
    same : (b : Bool) → cond b 1 0 ≡ only b 1
    same true = refl
    same false = refl

    go : (n : ℕ) → n ≤ length xs → count_by p (take n xs) ≡ count_to n (λ k. p (get_or xs k d))
    go zero h = refl
    go (suc n) h =
        let more = rw add-one at (sum_by_more (λ (x : X). cond (p x) 1 0) xs n d (omega arith)) in
        omega (arith, more, go n (omega arith), same (p (get_or xs n d)))
