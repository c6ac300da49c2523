-- The tasks that the demand of a task reads are those of which some units count in it.
-- Assumes nothing.
use Prim.Native.Nat.{ℕ, suc, ◌≤◌, ◌<◌}
use mathlib.Core.Path.{◌≡◌, sym, ◌∙◌}
use mathlib.Core.Bool.{Bool, true}
use native.Mathlib.Decide.{dec_le, dec_lt}
use native.Mathlib.Omega.{arith}
use borrow.Author.Tests.{ltb-true, lt-ltb, le-ltb, le-leb, lt-leb}
use Rattle.basics.specs.Choice.{only}
use Rattle.basics.proofs.ChoiceLaws.{only_some}
use Rattle.basics.proofs.SumLaws.{sum_part, sum_found}
use Rattle.table.specs.declared.Level.{Level}
use Rattle.table.specs.declared.Resource.{Resource}
use Rattle.table.specs.declared.Table.{Table}
use Rattle.std.specs.Prelude.{Ok}
use Rattle.table.specs.Limits.{max_resources}
use Rattle.table.specs.Rules.{table_fault}
use Rattle.theory.specs.View.{View, level, resource, is_above, over_resources, uses, ceiling}
use Rattle.theory.specs.Demand.{shared_CT, high_CT, units_read}
use Rattle.theory.specs.Tables.{merged_view}
use Rattle.theory.proofs.MergeLaws.{merged_bounds}
use Rattle.theory.proofs.PassLaws.{split_all}
use Rattle.promises.specs.NoEasier.{EachTask, EachPair}
use Rattle.promises.specs.Reads.{Above, LongForm, Reads, sharing, higher, lower}
use Rattle.promises.proofs.MergedLaws.{used_test}

-- what the check leaves of a table, as far as these laws need it: a pair has units exactly if it is in use, and every task runs
pub record Fitting (v : View) : Type 0 where
  pub used : EachPair v (λ l k. 1 ≤ v.CT l k → uses v l k ≡ true)
  pub counts : EachPair v (λ l k. uses v l k ≡ true → 1 ≤ v.CT l k)
  pub runs : EachTask v (λ l. 1 ≤ v.C l)

pub fine_fitting : (t : Table) → table_fault t ≡ Ok tt → Fitting (merged_view t)
fine_fitting t e =
    record {
      used = λ l k h r c. used_test t e l k h r ∙ lt-ltb 0 _ c;
      counts = λ l k h r u. ltb-true 0 _ (sym (used_test t e l k h r) ∙ u);
      runs = λ l h. ((merged_bounds t e).task l h).times.run_least;
    }

pub above_is : (l i : Level) → Above l i → is_above l i ≡ true
above_is l i h = lt-ltb l.0 i.0 h

pub is_above_lem : (l i : Level) → is_above l i ≡ true → Above l i
is_above_lem l i e = ltb-true l.0 i.0 e

module _ (v : View) (fits : Fitting v) (i : Level) (l : ℕ) (h : l < v.n) where
  -- of some resources there are units: one of them is in use
  found : (p : Resource → Bool) → 1 ≤ over_resources (λ k. only (p k) (v.CT (level l) k))
      → (k : ℕ) × (k < max_resources) × (p (resource k) ≡ true) × (uses v (level l) (resource k) ≡ true)
  found p s =
      let f = sum_found max_resources (λ k. only (p (resource k)) (v.CT (level l) (resource k))) s in
      let o = only_some (p (resource f.0)) _ f.2 in
      (f.0, f.1, o.0, fits.used l f.0 h f.1 o.1)

  -- and where one of them is in use, there are units
  some_units : (p : Resource → Bool) (k : ℕ) → k < max_resources → p (resource k) ≡ true → uses v (level l) (resource k) ≡ true
      → 1 ≤ over_resources (λ k. only (p k) (v.CT (level l) k))
  some_units p k r e u =
      let c : only (p (resource k)) (v.CT (level l) (resource k)) ≡ v.CT (level l) (resource k) = rw e in
      omega (arith, c, fits.counts l k h r u, sum_part max_resources k (λ k. only (p (resource k)) (v.CT (level l) (resource k))) r)

  pub shared_read : Above (level l) i → 1 ≤ shared_CT v i (level l) → Reads v i (level l)
  unfolding shared_CT
  shared_read a s = let f = found (uses v i) s in sharing a f.0 f.1 f.2 f.3

  pub high_read : LongForm v i → Above i (level l) → 1 ≤ high_CT v i (level l) → Reads v i (level l)
  unfolding high_CT
  high_read m a s = let f = found (λ k. is_above (ceiling v k) i) s in lower m a f.0 f.1 f.3 (is_above_lem (ceiling v (resource f.0)) i f.2)

  pub units_read_lem : 1 ≤ units_read v i (level l) → Reads v i (level l)
  unfolding units_read
  units_read_lem s = go (dec_le i.0 v.cpus) (dec_lt (suc l) i.0)
    where
      go : Dec (i.0 ≤ v.cpus) → Dec (suc l < i.0) → Reads v i (level l)
      go (yes m) d =
          let o = only_some (is_above (level l) i) (shared_CT v i (level l)) (omega (arith, rw (le-leb i.0 v.cpus m) at s)) in
          shared_read (is_above_lem (level l) i o.0) o.1
      go (no m) (yes a) = higher (omega arith) a
      go (no m) (no a) =
          let o = only_some (is_above i (level l)) (high_CT v i (level l)) (omega (arith, rw (lt-leb i.0 v.cpus (omega arith), le-ltb (suc l) i.0 (omega arith)) at s)) in
          high_read (omega arith) (is_above_lem i (level l) o.0) o.1

  pub read_units : Reads v i (level l) → 1 ≤ units_read v i (level l)
  unfolding units_read shared_CT high_CT
  read_units (sharing a k r u e) = rw (above_is (level l) i a) (omega (arith, some_units (uses v i) k r u e))
  read_units (higher m a) = rw (above_is (level l) i a, lt-leb i.0 v.cpus m) (omega (arith, split_all v i (level l), fits.runs l h))
  read_units (lower m a k r u c) =
      rw (above_is i (level l) a, lt-leb i.0 v.cpus m)
      (omega (arith, some_units (λ k. is_above (ceiling v k) i) k r (above_is (ceiling v (resource k)) i c) u))
