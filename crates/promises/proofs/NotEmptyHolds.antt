-- The one result is not said of nothing.
-- Assumes nothing.
use Prim.Native.Nat.{ℕ, ◌<◌}
use mathlib.Core.Path.{◌≡◌, refl}
use mathlib.Core.Bool.{true}
use lib.Dec.{T, ltb, lit<}
use Rattle.basics.specs.Over.{sum_to, max_to, all_to, first_to}
use Rattle.table.specs.declared.Table.{Table}
use Rattle.std.specs.Prelude.{Ok}
use Rattle.table.specs.Empty.{empty_task, empty_table}
use Rattle.table.specs.Faults.{first_fault}
use Rattle.table.specs.Rules.{times_in_range, times_in_order, times_fault, is_unused, used_in_range, pair_in_range, totals_fit, pair_fault, pairs_fault, alpha_fault, task_fault, last_alpha, tasks_fault, table_fault, groups_in_range, has_group}
use Rattle.field.specs.Number.{rounded, fraction, time_field, count_field}
use Rattle.put.specs.Text.{width, count_text}
use Rattle.line.specs.Fields.{field_count}
use Rattle.line.specs.Line.{cpus_line, task_line, use_line, line_says, group_line}
use Rattle.listing.specs.Read.{past_after, new_task, table_after, read_end, read_lines, read_listing}
use Rattle.theory.specs.declared.Verdict.{Verdict}
use Rattle.theory.specs.declared.Verdict.TheVariants.{Meets, Misses}
use Rattle.theory.specs.declared.Counted.{Counted}
use Rattle.theory.specs.Work.{uncapped, workload, jobs, ceil_div}
use Rattle.theory.specs.View.{View, ceiling}
use Rattle.theory.specs.Demand.{shared_CT, other_CT, all_CT, high_CT, DB, S, O, F, L, demand_with}
use Rattle.theory.specs.Rounds.{counted_from}
use Rattle.theory.specs.Tables.{merged_view}
use Rattle.theory.proofs.WorkLaws.{workload_rises}
use Rattle.theory.proofs.EndLaws.{Right}
use Rattle.analysis.proofs.ByRounds.{by_rounds}
use Rattle.theory.specs.Merge.{merged_tasks, merged}
use Rattle.theory.proofs.MergeLaws.{merged_bounds}
use Rattle.promises.specs.Words.{read_table}
use Rattle.promises.specs.Demand2.{demand_in, run_in, deadline_in}
use Rattle.promises.specs.NoEasier.{Compared, LongerButFree, Related}
use Rattle.promises.specs.NotEmpty.{on, Moves, Lost, holding, holding_longer, NotEmpty}
use Rattle.promises.proofs.ComparedByTest.{Tested, at_most, equal, any, rules, is_compared, compared_by}

-- the rounds of the task in slot i, so many of them allowed
abbrev pub counted_at : Table → ℕ → ℕ → Counted
counted_at t i k = counted_from (demand_in t i) (deadline_in t i) k (run_in t i)

-- a verdict after k rounds
after : (t : Table) (i k : ℕ) {v : Verdict} → table_fault t ≡ Ok tt → T (ltb i t.n) → counted_at t i k ≡ record { verdict = v; rounds = k } → Right (demand_in t i) (deadline_in t i) v
after t i k e h c = by_rounds workload workload_rises (merged t) i (merged_bounds t e) (lit< h) k c

-- a bound after j rounds goes to one after k, or to a miss, in tables that are related in whatever way
module _ {R : View → View → Type 0} {a b : Table} {i : ℕ} (j k : ℕ) (r : Related R a b) (h : T (ltb i a.n)) (h' : T (ltb i b.n)) where
  pub moves_by : {u w : ℕ} → counted_at a i j ≡ record { verdict = Meets u; rounds = j } → counted_at b i k ≡ record { verdict = Meets w; rounds = k } → Moves R a b i u w
  moves_by c d = record { related = r; before = after a i j r.first h c; after = after b i k r.second h' d }

  pub lost_by : {u : ℕ} → counted_at a i j ≡ record { verdict = Meets u; rounds = j } → counted_at b i k ≡ record { verdict = Misses; rounds = k } → Lost R a b i u
  lost_by c d = record { related = r; before = after a i j r.first h c; after = after b i k r.second h' d }

module _ {rest run free : ℕ → ℕ → Type 0} (p : Tested rest) (q : Tested run) (r : Tested free) {a b : Table} where
  pub related_by : table_fault a ≡ Ok tt → table_fault b ≡ Ok tt → is_compared p q r (merged_view a) (merged_view b) ≡ true → Related (Compared rest run free) a b
  related_by e f h = record { first = e; second = f; related = compared_by p q r _ _ h }

  moves : {i u w : ℕ} (j k : ℕ) → table_fault a ≡ Ok tt → table_fault b ≡ Ok tt → is_compared p q r (merged_view a) (merged_view b) ≡ true → T (ltb i a.n) → T (ltb i b.n)
      → counted_at a i j ≡ record { verdict = Meets u; rounds = j } → counted_at b i k ≡ record { verdict = Meets w; rounds = k } → Moves (Compared rest run free) a b i u w
  moves j k e f h l m c d = moves_by j k (related_by e f h) l m c d

  lost : {i u : ℕ} (j k : ℕ) → table_fault a ≡ Ok tt → table_fault b ≡ Ok tt → is_compared p q r (merged_view a) (merged_view b) ≡ true → T (ltb i a.n) → T (ltb i b.n)
      → counted_at a i j ≡ record { verdict = Meets u; rounds = j } → counted_at b i k ≡ record { verdict = Misses; rounds = k } → Lost (Compared rest run free) a b i u
  lost j k e f h l m c d = lost_by j k (related_by e f h) l m c d

pub two_tasks : 1 < (read_table holding).n
unfolding sum_to empty_task empty_table first_fault times_in_range times_in_order times_fault is_unused used_in_range pair_in_range totals_fit pair_fault rounded fraction time_field count_field width count_text field_count cpus_line task_line use_line line_says past_after new_task table_after read_end read_lines read_listing group_line
two_tasks = lit< tt

pub falls : Moves LongerButFree (read_table holding) (read_table holding_longer) 1 5_000 3_000
unfolding all_to rules sum_to max_to first_to empty_task empty_table first_fault times_in_range times_in_order times_fault is_unused used_in_range pair_in_range totals_fit pair_fault pairs_fault alpha_fault task_fault last_alpha tasks_fault table_fault rounded fraction time_field count_field width count_text field_count cpus_line task_line use_line line_says past_after new_task table_after read_end read_lines read_listing uncapped workload jobs ceil_div ceiling shared_CT other_CT all_CT high_CT DB S O F L demand_with counted_from groups_in_range merged_tasks has_group group_line
falls = moves equal at_most any 3 3 refl refl refl tt tt refl refl

pub not_empty : NotEmpty
unfolding on all_to rules sum_to max_to first_to first_fault times_in_range times_in_order times_fault is_unused used_in_range pair_in_range totals_fit pair_fault pairs_fault alpha_fault task_fault last_alpha tasks_fault table_fault uncapped workload jobs ceil_div ceiling shared_CT other_CT all_CT high_CT DB S O F L demand_with counted_from groups_in_range merged_tasks has_group
not_empty =
    record {
      harder =
          record {
            longer_request = moves at_most equal any 2 2 refl refl refl tt tt refl refl;
            oftener = lost at_most equal any 2 1 refl refl refl tt tt refl refl;
            fewer = moves at_most equal any 1 7 refl refl refl tt tt refl refl;
            fewer_third = moves at_most equal any 6 4 refl refl refl tt tt refl refl;
            shorter = moves at_most equal any 4 5 refl refl refl tt tt refl refl;
            added = moves at_most equal any 6 4 refl refl refl tt tt refl refl;
          };
      longer =
          record {
            longer = moves equal at_most at_most 6 7 refl refl refl tt tt refl refl;
            held = moves equal at_most at_most 6 4 refl refl refl tt tt refl refl;
            missed = lost equal at_most at_most 7 3 refl refl refl tt tt refl refl;
          };
      at_once =
          record {
            both = moves at_most at_most at_most 4 5 refl refl refl tt tt refl refl;
            once_longer = moves at_most at_most at_most 6 4 refl refl refl tt tt refl refl;
            request_alone = refl;
            total_alone = refl;
          };
      falls = falls;
    }
