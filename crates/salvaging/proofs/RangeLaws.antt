-- What `find`, `any`, `all` and `filter` over the indices below n say, as `first_to`, `all_to` and `count_to`.
-- Assumes nothing.
use Rattle.std.proofs.Common.{◌≡◌, ℕ, ◌<◌, ◌≤◌, Bool, true, false, Option, Some, None, MatchOption, length, get_or, ltb, sym, ap, ◌∙◌, arith}
use borrow.Author.Tests.{lt-ltb, le-ltb}
use lib.Seq.{take_all}
use Rattle.std.specs.Bool.{MatchBool}
use Rattle.std.specs.Option.{unwrap_or}
use Rattle.std.specs.List.{AllWithin, HoldsAt, filter, range_with_len}
use Rattle.std.proofs.lemmas.List.FromFn.{length-range_with_len, get_or-range_with_len}
use native.Mathlib.Nat.{le_refl}
use Rattle.basics.specs.Choice.{only}
use Rattle.basics.specs.Over.{all_to, count_to, first_to}
use Rattle.basics.proofs.AllLaws.{all_eq}
use Rattle.basics.proofs.SumLaws.{sum_eq}
use Rattle.basics.proofs.FirstIndexLaws.{first_by}
use Rattle.basics.proofs.OnceLaws.{first_below}
use Rattle.basics.proofs.EachLaws.{each_is, count_is}

same : (n k : ℕ) → k < n → get_or (range_with_len 0 n) k 0 ≡ k
same n k h = get_or-range_with_len 0 n k 0 h ∙ omega arith

pub range_all : (n : ℕ) (p : ℕ → Bool) (r : Bool)
    → MatchBool r (AllWithin (λ x. p x ≡ true) (range_with_len 0 n) 0 (length (range_with_len 0 n))) ((k : ℕ) × (k < length (range_with_len 0 n)) × HoldsAt (λ x. p x ≡ false) (range_with_len 0 n) k)
    → r ≡ all_to n p
range_all n p r h =
    each_is n 0 p (range_with_len 0 n) r (length-range_with_len 0 n) h ∙ all_eq n _ p (λ k l. ap p (same n k l))

pub range_count : (n : ℕ) (p : ℕ → Bool) → length (filter p (range_with_len 0 n)) ≡ count_to n p
range_count n p =
    let xs = range_with_len 0 n in
    let l = length-range_with_len 0 n in
    ap (λ ys. length (filter p ys)) (sym (take_all n xs (omega (arith, l))))
    ∙ count_is n 0 p xs (omega (arith, l))
    ∙ sum_eq n _ (λ k. only (p k) 1) (λ k h. ap (λ i. only (p i) 1) (same n k h))

pub range_find : (n : ℕ) (p : ℕ → Bool) (r : Option ℕ)
    → MatchOption r ((k : ℕ) → 0 ≤ k → k < n → p k ≡ false) (λ i. (0 ≤ i) × (i < n) × (p i ≡ true) × ((k : ℕ) → 0 ≤ k → k < i → p k ≡ false))
    → unwrap_or r n ≡ first_to n p
range_find n p None h = sym (first_by n p n (record { upto = le_refl n; clear = λ j l. h j (omega arith) l; found = λ l. absurd (omega arith) }))
range_find n p (Some i) h = sym (first_by n p i (record { upto = omega (arith, h.1); clear = λ j l. h.3 j (omega arith) l; found = λ l. h.2 }))

pub range_any : (n : ℕ) (p : ℕ → Bool) (r : Bool)
    → MatchBool r ((k : ℕ) × (k < length (range_with_len 0 n)) × HoldsAt (λ x. p x ≡ true) (range_with_len 0 n) k) (AllWithin (λ x. p x ≡ false) (range_with_len 0 n) 0 (length (range_with_len 0 n)))
    → r ≡ ltb (first_to n p) n
range_any n p true h =
    let l : h.0 < n = omega (arith, h.1, length-range_with_len 0 n) in
    sym (lt-ltb _ _ (first_below n h.0 p l (sym (ap p (same n h.0 l)) ∙ h.2 0)))
range_any n p false h =
    let none = λ (j : ℕ) (l : j < n). sym (ap p (same n j l)) ∙ h j 0 (omega arith) (omega (arith, length-range_with_len 0 n)) in
    let e = first_by n p n (record { upto = le_refl n; clear = none; found = λ l. absurd (omega arith) }) in
    sym (le-ltb _ _ (omega (arith, e)))
