-- The one result holds, and with it demand 3 and request 7/12.
-- Assumes nothing.
use Prim.Native.Nat.{◌-◌}
use mathlib.Core.Path.{◌≡◌, ap₂}
use native.Mathlib.Nat.{le_of_eq}
use native.Mathlib.Omega.{arith}
use Rattle.basics.proofs.SumLaws.{sum_eq}
use Rattle.table.specs.declared.Table.{Table}
use Rattle.std.specs.Prelude.{Ok}
use Rattle.table.specs.Limits.{max_resources}
use Rattle.table.specs.Rules.{table_fault}
use Rattle.theory.specs.View.{View}
use Rattle.theory.specs.Demand.{all_CT}
use Rattle.theory.specs.Merge.{merged}
use Rattle.theory.specs.Tables.{merged_view}
use Rattle.theory.proofs.MergeLaws.{merged_bounds}
use Rattle.theory.proofs.LeastLaws.{least_unique}
use Rattle.analysis.proofs.ByRounds.{bounds_runs}
use Rattle.promises.specs.Words.{read_table}
use Rattle.promises.specs.NoEasier.{NoEasier, KeepsBounds, Harder, Longer, LongerButFree, OneResult}
use Rattle.promises.specs.NotEmpty.{holding, holding_longer}
use Rattle.promises.proofs.NoEasierLaws.{Fits, no_easier_keeps}
use Rattle.promises.proofs.NotEmptyHolds.{two_tasks, falls}

fine_fits : (t : Table) → table_fault t ≡ Ok tt → Fits (merged_view t)
unfolding all_CT
fine_fits t e =
    let a = merged_bounds t e in
    record {
      runs = bounds_runs (merged t) a;
      run_deadline = λ l h. (a.task l h).times.run_deadline;
      deadline_period = λ l h. (a.task l h).times.deadline_period;
      totals = λ l h. (a.task l h).totals;
    }

pub one : KeepsBounds NoEasier
one a b r = no_easier_keeps (merged_view a) (merged_view b) r.related (fine_fits b r.second)

-- what is unchanged is no smaller; where C and CT are, so is C less all CT
harder_is : (v w : View) → Harder v w → NoEasier v w
unfolding all_CT
harder_is v w s =
    record {
      cpus = s.cpus;
      n = s.n;
      T = s.T;
      N = s.N;
      c = s.c;
      C = λ l h. le_of_eq (s.C l h);
      CT = λ l k h r. le_of_eq (s.CT l k h r);
      free = λ l h. le_of_eq (ap₂ ◌-◌ (s.C l h) (sum_eq max_resources _ _ (λ k r. s.CT l k h r)));
      D = s.D;
      pairs = s.pairs;
    }

longer_is : (v w : View) → Longer v w → NoEasier v w
longer_is v w s =
    record {
      cpus = le_of_eq s.cpus;
      n = le_of_eq s.n;
      T = λ l h. le_of_eq (s.T l h);
      N = λ l k h r. le_of_eq (s.N l k h r);
      c = λ l k h r. le_of_eq (s.c l k h r);
      C = s.C;
      CT = s.CT;
      free = λ l h. omega (arith, s.free l h);
      D = s.D;
      pairs = s.pairs;
    }

reading : {R : View → View → Type 0} → ((v w : View) → R v w → NoEasier v w) → KeepsBounds R
reading is a b r = one a b (record { first = r.first; second = r.second; related = is _ _ r.related })

-- the bound that the first would keep is at most 3,000, and its one bound is 5,000
named : KeepsBounds LongerButFree → ⊥
named keeps =
    let k = keeps (read_table holding) (read_table holding_longer) falls.related 1 two_tasks 3_000 falls.after in
    omega (arith, k.2, least_unique _ _ _ _ falls.before k.1)

pub one_result : OneResult
one_result = record { one = one; harder_is = harder_is; longer_is = longer_is; demand3 = reading harder_is; request7 = reading longer_is; named = named }
