-- What a verdict reads, computed.
-- Assumes nothing.
use Prim.Native.Nat.{ℕ}
use mathlib.Core.Path.{◌≡◌, refl}
use mathlib.Core.Bool.{true}
use lib.Dec.{T, ltb, lit<}
use Rattle.basics.specs.Over.{sum_to, max_to, all_to, first_to}
use Rattle.table.specs.declared.Table.{Table}
use Rattle.std.specs.Prelude.{Ok}
use Rattle.table.specs.Faults.{first_fault}
use Rattle.table.specs.Rules.{times_in_range, times_in_order, times_fault, is_unused, used_in_range, pair_in_range, totals_fit, pair_fault, pairs_fault, alpha_fault, task_fault, last_alpha, tasks_fault, table_fault, groups_in_range, has_group}
use Rattle.theory.specs.declared.Verdict.TheVariants.{Meets, Misses}
use Rattle.theory.specs.Work.{uncapped, workload, jobs, ceil_div}
use Rattle.theory.specs.View.{level, ceiling}
use Rattle.theory.specs.Demand.{shared_CT, other_CT, all_CT, high_CT, DB, S, O, F, L, demand_with, units_read}
use Rattle.theory.specs.Rounds.{counted_from}
use Rattle.theory.specs.Tables.{merged_view}
use Rattle.theory.specs.Merge.{merged_tasks}
use Rattle.promises.specs.NoEasier.{Related}
use Rattle.promises.specs.NotEmpty.{on, tasks_A}
use Rattle.promises.specs.Reads.{FigureKind, processors, tasks, run, deadline, requests, period_above, deadline_above, shared, other, free, period_below, deadline_below, high, longest, SameBut}
use Rattle.promises.specs.EachRead.{Stays, Tells, TellsMiss, unlocked, lock_apart, lock_shared, EachRead}
use Rattle.promises.proofs.AgreeByTest.{agrees_on, numbered, is_same_test, is_same_but, same_by, same_but_by, same_by_first}
use Rattle.promises.proofs.UnchangedByTest.{unchanged, only_run_by, where_read_by}
use Rattle.promises.proofs.NotEmptyHolds.{counted_at, moves_by, lost_by}
use Rattle.promises.proofs.ReadsLaws.{fine_fitting}

-- of the task at slot i, from its rounds, j in the first table and k in the second
module _ {a b : Table} (i j k : ℕ) (e : table_fault a ≡ Ok tt) (f : table_fault b ≡ Ok tt) where
  stays : {u : ℕ} → is_same_test (merged_view a) (merged_view b) (level i) ≡ true → T (ltb i a.n) → T (ltb i b.n)
      → counted_at a i j ≡ record { verdict = Meets u; rounds = j } → counted_at b i k ≡ record { verdict = Meets u; rounds = k } → Stays a b i u
  stays s l m c d = moves_by j k (record { first = e; second = f; related = same_by _ _ (level i) (fine_fitting a e) s }) l m c d

  module _ (x : FigureKind) where
    but : is_same_but (merged_view a) (merged_view b) (level i) (numbered x).0 ≡ true → Related (λ v w. SameBut x v w (level i)) a b
    but s = record { first = e; second = f; related = same_but_by _ _ (level i) (fine_fitting a e) x s }

    tells : {u w : ℕ} → is_same_but (merged_view a) (merged_view b) (level i) (numbered x).0 ≡ true → T (ltb i a.n) → T (ltb i b.n)
        → counted_at a i j ≡ record { verdict = Meets u; rounds = j } → counted_at b i k ≡ record { verdict = Meets w; rounds = k } → Tells x a b i u w
    tells s l m c d = moves_by j k (but s) l m c d

    tells_miss : {u : ℕ} → is_same_but (merged_view a) (merged_view b) (level i) (numbered x).0 ≡ true → T (ltb i a.n) → T (ltb i b.n)
        → counted_at a i j ≡ record { verdict = Meets u; rounds = j } → counted_at b i k ≡ record { verdict = Misses; rounds = k } → TellsMiss x a b i u
    tells_miss s l m c d = lost_by j k (but s) l m c d

pub each_read : EachRead
unfolding on all_to sum_to max_to first_to first_fault times_in_range times_in_order times_fault is_unused used_in_range pair_in_range totals_fit pair_fault pairs_fault alpha_fault task_fault last_alpha tasks_fault table_fault uncapped workload jobs ceil_div ceiling shared_CT other_CT all_CT high_CT DB S O F L demand_with counted_from units_read agrees_on numbered unchanged groups_in_range merged_tasks has_group
each_read =
    record {
      unread =
          record {
            below = stays 0 2 2 refl refl refl tt tt refl refl;
            short = stays 1 1 1 refl refl refl tt tt refl refl;
            long = stays 2 6 6 refl refl refl tt tt refl refl;
            own = stays 2 6 6 refl refl refl tt tt refl refl;
          };
      told =
          record {
            processors_told = tells 2 6 4 refl refl processors refl tt tt refl refl;
            tasks_told = tells 1 7 6 refl refl tasks refl tt tt refl refl;
            run_told = tells 1 1 1 refl refl run refl tt tt refl refl;
            deadline_told = tells_miss 2 6 5 refl refl deadline refl tt tt refl refl;
            requests_told = tells 0 2 2 refl refl requests refl tt tt refl refl;
            period_above_told = tells 2 4 5 refl refl period_above refl tt tt refl refl;
            deadline_above_told = tells 2 6 14 refl refl deadline_above refl tt tt refl refl;
            shared_told = tells 2 6 4 refl refl shared refl tt tt refl refl;
            other_told = tells 1 7 6 refl refl other refl tt tt refl refl;
            free_told = tells 2 6 7 refl refl free refl tt tt refl refl;
            period_below_told = tells 1 2 8 refl refl period_below refl tt tt refl refl;
            deadline_below_told = tells 1 2 7 refl refl deadline_below refl tt tt refl refl;
            high_told = tells 1 3 7 refl refl high refl tt tt refl refl;
            longest_told = tells 0 2 2 refl refl longest refl tt tt refl refl;
          };
      run_below = moves_by 2 2 (record { first = refl; second = refl; related = (lit< tt, only_run_by _ _ (level 1) refl) }) tt tt refl refl;
      begins =
          moves_by 2 7 (record { first = refl; second = refl; related = where_read_by (merged_view unlocked) (merged_view (on 1 tasks_A)) (fine_fitting unlocked refl) (level 1) refl refl }) tt tt refl refl;
      lifts =
          moves_by 2 7
          (record { first = refl; second = refl; related = same_by_first (merged_view lock_apart) (merged_view lock_shared) (level 1) (fine_fitting lock_apart refl) refl refl })
          tt tt refl refl;
    }
