-- Each test of the rules 4, 5, 7, 17 and 18 is the fact that specs/Refusals.antt names.
-- Assumes nothing.
use Prim.Native.Nat.{ℕ, ◌*◌, ◌≤◌}
use mathlib.Core.Path.{◌≡◌, refl}
use mathlib.Core.Bool.{Bool, true, false, ◌&&◌, ◌||◌, or-true}
use mathlib.Core.Logic.{◌⊎◌, inl, inr}
use native.Mathlib.Omega.{arith}
use borrow.Author.Tests.{leb-true, le-leb, eqb-true, eq-eqb, ne_eqb}
use lib.Dec.{leb, eqb}
use Rattle.basics.specs.Choice.{pick, within}
use Rattle.basics.specs.Exactly.{◌exactly_if◌}
use Rattle.basics.proofs.ChoiceLaws.{and_true, within_in, within_true}
use Rattle.table.specs.declared.Pair.{Pair}
use Rattle.table.specs.Limits.{max_time, max_count}
use Rattle.table.specs.Empty.{unused_pair}
use Rattle.table.specs.Rules.{is_time, times_in_range, times_in_order, all_or_none, may_follow, is_unused, used_in_range, pair_in_range, totals_fit}
use Rattle.table.specs.Refusals.{InRange, TimesInRange, TimesInOrder, UsedInRange, PairInRange, TotalsFit}

pub range_is : (low high x : ℕ) → (within low high x ≡ true) exactly_if InRange low high x
range_is low high x = (within_true low high x, λ r. within_in low high x r.0 r.1)

-- ---- a task's times

pub times_range_is : (T C D : ℕ) → (times_in_range T C D ≡ true) exactly_if TimesInRange T C D
unfolding times_in_range
times_range_is T C D = (there, λ r. rw ((range_is 1 max_time T).1 r.period, (range_is 1 max_time C).1 r.run, (range_is 1 max_time D).1 r.deadline))
  where
    there : (is_time T && is_time C && is_time D) ≡ true → TimesInRange T C D
    there e =
        let d = and_true (is_time T && is_time C) (is_time D) e in
        let r = and_true (is_time T) (is_time C) d.0 in
        record { period = within_true 1 max_time T r.0; run = within_true 1 max_time C r.1; deadline = within_true 1 max_time D d.1 }

pub times_order_is : (T C D : ℕ) → (times_in_order T C D ≡ true) exactly_if TimesInOrder T C D
unfolding times_in_order
times_order_is T C D = (
  λ e. let o = and_true (leb C D) (leb D T) e in record { run_deadline = leb-true _ _ o.0; deadline_period = leb-true _ _ o.1 },
  λ r. rw (le-leb C D r.run_deadline, le-leb D T r.deadline_period),
)

-- ---- alpha: in a table `AlphaLaws` says what these come to

either : {P Q : Type 0} (a b : Bool) → (a ≡ true → P) → (b ≡ true → Q) → (a || b) ≡ true → P ⊎ Q
either true b f g e = inl (f refl)
either false b f g e = inr (g e)

pub all_or_none_is : (given n : ℕ) → (all_or_none given n ≡ true) exactly_if ((given ≡ 0) ⊎ (given ≡ n))
all_or_none_is given n = (either (eqb given 0) (eqb given n) (eqb-true given 0) (eqb-true given n), back)
  where
    back : (given ≡ 0) ⊎ (given ≡ n) → all_or_none given n ≡ true
    back (inl e) = rw (eq-eqb given 0 e)
    back (inr e) = rw (eq-eqb given n e, or-true)

pub may_follow_is : (last A : ℕ) → (may_follow last A ≡ true) exactly_if ((last ≡ 0) ⊎ (A ≤ last))
may_follow_is last A = (either (eqb last 0) (leb A last) (eqb-true last 0) (leb-true A last), back)
  where
    back : (last ≡ 0) ⊎ (A ≤ last) → may_follow last A ≡ true
    back (inl e) = rw (eq-eqb last 0 e)
    back (inr h) = rw (le-leb A last h, or-true)

-- ---- one pair

pub used_range_is : (p : Pair) → (used_in_range p ≡ true) exactly_if UsedInRange p
unfolding used_in_range
used_range_is p = (there, λ r. rw ((range_is 1 max_count p.requests).1 r.requests, (range_is 1 max_time p.longest).1 r.longest, (range_is 1 max_time p.total).1 r.total))
  where
    there : (within 1 max_count p.requests && is_time p.longest && is_time p.total) ≡ true → UsedInRange p
    there e =
        let s = and_true (within 1 max_count p.requests && is_time p.longest) (is_time p.total) e in
        let r = and_true (within 1 max_count p.requests) (is_time p.longest) s.0 in
        record { requests = within_true 1 max_count _ r.0; longest = within_true 1 max_time _ r.1; total = within_true 1 max_time _ s.1 }

unused_is : (p : Pair) → p.requests ≡ 0 → p.longest ≡ 0 → p.total ≡ 0 → p ≡ unused_pair
unused_is p n c t = λ j. record { requests = n j; longest = c j; total = t j }

pub pair_range_is : (p : Pair) → (pair_in_range p ≡ true) exactly_if PairInRange p
unfolding pair_in_range is_unused
pair_range_is p = (go (eqb p.requests 0) refl, back)
  where
    go : (b : Bool) → eqb p.requests 0 ≡ b → pick b (is_unused p) (used_in_range p) ≡ true → PairInRange p
    go true n e =
        let z = and_true (eqb p.longest 0) (eqb p.total 0) e in
        inl (unused_is p (eqb-true _ _ n) (eqb-true _ _ z.0) (eqb-true _ _ z.1))
    go false n e = inr ((used_range_is p).0 e)

    back : PairInRange p → pick (eqb p.requests 0) (is_unused p) (used_in_range p) ≡ true
    back (inl e) = rw e
    back (inr r) = rw (ne_eqb p.requests 0 (λ z. omega (arith, r.requests.0))) ((used_range_is p).1 r)

pub totals_fit_is : (p : Pair) (sum C : ℕ) → (totals_fit p sum C ≡ true) exactly_if TotalsFit p sum C
unfolding totals_fit
totals_fit_is p sum C = (
  there,
  λ r. rw (le-leb p.longest p.total r.longest_total, le-leb p.total (p.requests * p.longest) r.total_product, le-leb sum C r.sum_run),
)
  where
    there : (leb p.longest p.total && leb p.total (p.requests * p.longest) && leb sum C) ≡ true → TotalsFit p sum C
    there e =
        let u = and_true (leb p.longest p.total && leb p.total (p.requests * p.longest)) (leb sum C) e in
        let o = and_true (leb p.longest p.total) (leb p.total (p.requests * p.longest)) u.0 in
        record { longest_total = leb-true _ _ o.0; total_product = leb-true _ _ o.1; sum_run = leb-true _ _ u.1 }
