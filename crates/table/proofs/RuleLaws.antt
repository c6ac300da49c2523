-- What the rules for a task's times and for a pair say, as the bounds of `Accepted`.
-- Assumes nothing.
use Prim.Native.Nat.{ℕ, ◌*◌, ◌≤◌}
use mathlib.Core.Path.{◌≡◌, refl}
use mathlib.Core.Bool.{Bool, true, false}
use mathlib.Core.Logic.{◌⊎◌, inl, inr}
use native.Mathlib.Omega.{arith}
use Rattle.table.specs.declared.Pair.{Pair}
use Rattle.table.specs.declared.Fault.{Fault}
use Rattle.table.specs.declared.Fault.TheVariants.{OutOfRange, BadTimes, BadTotals}
use Rattle.std.specs.Prelude.{Ok}
use Rattle.table.specs.Limits.{max_time, max_count}
use Rattle.table.specs.Empty.{unused_pair}
use Rattle.table.specs.Faults.{unless}
use Rattle.table.specs.Rules.{times_in_range, times_fault, used_in_range, pair_in_range, totals_fit, pair_fault}
use Rattle.table.specs.Accepted.{GoodTimes, GoodPair}
use Rattle.table.specs.Refusals.{TimesInRange, TimesInOrder, UsedInRange, PairInRange, TotalsFit}
use Rattle.table.proofs.FirstLaws.{then_fine}
use Rattle.table.proofs.RuleFacts.{times_range_is, times_order_is, used_range_is, pair_range_is, totals_fit_is}

pub unless_fine : (b : Bool) (fault : Fault) (place : ℕ) → unless b fault place ≡ Ok tt → b ≡ true
unless_fine true fault place e = refl
unless_fine false fault place e = cc

-- ---- a task's times: 4 and 5 together are its bounds

pub good_times : {T C D : ℕ} → TimesInRange T C D → TimesInOrder T C D → GoodTimes T C D
good_times r o =
    record { run_least = r.run.0; run_deadline = o.run_deadline; deadline_period = o.deadline_period; period_most = r.period.1 }

pub times_range : {T C D : ℕ} → GoodTimes T C D → TimesInRange T C D
times_range g = record { period = (omega arith, omega arith); run = (omega arith, omega arith); deadline = (omega arith, omega arith) }

pub times_order : {T C D : ℕ} → GoodTimes T C D → TimesInOrder T C D
times_order g = record { run_deadline = g.run_deadline; deadline_period = g.deadline_period }

pub times_good : (place T C D : ℕ) → times_fault place T C D ≡ Ok tt → GoodTimes T C D
unfolding times_fault
times_good place T C D e =
    let f = then_fine (unless (times_in_range T C D) OutOfRange place) _ e in
    good_times ((times_range_is T C D).0 (unless_fine _ OutOfRange place f.0)) ((times_order_is T C D).0 (unless_fine _ BadTimes place f.1))

pub times_fine : (place T C D : ℕ) → GoodTimes T C D → times_fault place T C D ≡ Ok tt
unfolding times_fault
times_fine place T C D g = rw ((times_range_is T C D).1 (times_range g), (times_order_is T C D).1 (times_order g))

-- ---- one pair: 4 and 7 together are its bounds

good_used : (p : Pair) {sum C : ℕ} → UsedInRange p → TotalsFit p sum C → GoodPair p
good_used p r u =
    record {
      requests_least = r.requests.0;
      requests_most = r.requests.1;
      longest_least = r.longest.0;
      longest_total = u.longest_total;
      total_product = u.total_product;
      total_most = r.total.1;
    }

good_pair : (p : Pair) {sum C : ℕ} → PairInRange p → TotalsFit p sum C → (p ≡ unused_pair) ⊎ GoodPair p
good_pair p (inl e) u = inl e
good_pair p (inr r) u = inr (good_used p r u)

used_facts : (p : Pair) → GoodPair p → UsedInRange p
used_facts p g =
    record { requests = (g.requests_least, g.requests_most); longest = (g.longest_least, omega arith); total = (omega arith, g.total_most) }

totals_facts : (p : Pair) {sum C : ℕ} → GoodPair p → sum ≤ C → TotalsFit p sum C
totals_facts p g h = record { longest_total = g.longest_total; total_product = g.total_product; sum_run = h }

pub used_good : (p : Pair) (sum C : ℕ) → used_in_range p ≡ true → totals_fit p sum C ≡ true → GoodPair p × (sum ≤ C)
used_good p sum C e f = let u = (totals_fit_is p sum C).0 f in (good_used p ((used_range_is p).0 e) u, u.sum_run)

pub used_range : (p : Pair) → GoodPair p → used_in_range p ≡ true
used_range p g = (used_range_is p).1 (used_facts p g)

pub used_totals : (p : Pair) (sum C : ℕ) → GoodPair p → sum ≤ C → totals_fit p sum C ≡ true
used_totals p sum C g h = (totals_fit_is p sum C).1 (totals_facts p g h)

pub pair_good : (place : ℕ) (p : Pair) (sum C : ℕ) → pair_fault place p sum C ≡ Ok tt
    → ((p ≡ unused_pair) ⊎ GoodPair p) × (sum ≤ C)
unfolding pair_fault
pair_good place p sum C e =
    let f = then_fine (unless (pair_in_range p) OutOfRange place) _ e in
    let u = (totals_fit_is p sum C).0 (unless_fine _ BadTotals place f.1) in
    (good_pair p ((pair_range_is p).0 (unless_fine _ OutOfRange place f.0)) u, u.sum_run)

pair_facts : (p : Pair) {sum C : ℕ} → (p ≡ unused_pair) ⊎ GoodPair p → sum ≤ C → PairInRange p × TotalsFit p sum C
pair_facts p (inl e) h = (inl e, rw e (record { longest_total = omega arith; total_product = omega arith; sum_run = h }))
pair_facts p (inr g) h = (inr (used_facts p g), totals_facts p g h)

pub pair_fine : (place : ℕ) (p : Pair) (sum C : ℕ) → (p ≡ unused_pair) ⊎ GoodPair p → sum ≤ C → pair_fault place p sum C ≡ Ok tt
unfolding pair_fault
pair_fine place p sum C g h = let f = pair_facts p g h in rw ((pair_range_is p).1 f.0, (totals_fit_is p sum C).1 f.1)

-- what a pair holds, in use or not
pub record PairBounds (p : Pair) : Type 0 where
  pub requests_most : p.requests ≤ max_count
  pub longest_total : p.longest ≤ p.total
  pub total_product : p.total ≤ p.requests * p.longest
  pub total_most : p.total ≤ max_time

pub pair_bounds : (p : Pair) → (p ≡ unused_pair) ⊎ GoodPair p → PairBounds p
pair_bounds p (inl e) =
    rw e
    (record { requests_most = omega arith; longest_total = omega arith; total_product = omega arith; total_most = omega arith })
pair_bounds p (inr g) =
    record {
      requests_most = g.requests_most;
      longest_total = g.longest_total;
      total_product = g.total_product;
      total_most = g.total_most;
    }
