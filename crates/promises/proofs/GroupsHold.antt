-- Request 9/12 holds.
-- Assumes nothing.
use Prim.Native.Nat.{ℕ, suc, pred, ◌≤◌, ◌<◌}
use mathlib.Core.Path.{◌≡◌, refl, sym, ap, ◌∙◌}
use native.Mathlib.Decide.{ℕ_discrete}
use native.Mathlib.Omega.{arith}
use borrow.Author.Tests.{eq-eqb, ne_eqb}
use lib.Dec.{eqb, lit<}
use Rattle.basics.specs.Choice.{only}
use Rattle.basics.specs.Over.{sum_to, max_to, all_to, first_to, join_to}
use Rattle.basics.proofs.SumLaws.{sum_eq, sum_single}
use Rattle.basics.proofs.MaxLaws.{max_eq, max_single}
use Rattle.table.specs.declared.Level.{Level}
use Rattle.table.specs.declared.Table.{Table}
use Rattle.std.specs.Prelude.{Ok}
use Rattle.table.specs.Limits.{max_resources}
use Rattle.table.specs.Empty.{empty_task, empty_table}
use Rattle.table.specs.At.{task_at, alpha_at, group_at, pair_at, total_of}
use Rattle.table.specs.Faults.{first_fault}
use Rattle.table.specs.Rules.{times_in_range, times_in_order, times_fault, groups_in_range, has_group, is_unused, used_in_range, pair_in_range, totals_fit, pair_fault, pairs_fault, alpha_fault, task_fault, last_alpha, tasks_fault, table_fault}
use Rattle.table.proofs.Acceptance.{fine_accepted}
use Rattle.field.specs.Number.{rounded, fraction, time_field, count_field}
use Rattle.line.specs.Fields.{field_count}
use Rattle.line.specs.Line.{cpus_line, group_line, task_line, use_line, line_says}
use Rattle.listing.specs.Read.{past_after, new_task, table_after, read_end, read_lines, read_listing}
use Rattle.theory.specs.declared.Verdict.TheVariants.{Meets}
use Rattle.theory.specs.Work.{uncapped, workload, jobs, ceil_div}
use Rattle.theory.specs.View.{View, level, ceiling}
use Rattle.theory.specs.Demand.{shared_CT, other_CT, all_CT, high_CT, DB, S, O, F, L, demand_with}
use Rattle.theory.specs.Rounds.{counted_from}
use Rattle.theory.specs.Merge.{slot_of, merged_pair, merged_task, grouped_tasks, merged_tasks, merged}
use Rattle.theory.specs.Groups.{member_of, group_pair}
use Rattle.theory.specs.Tables.{merged_view, counted_by}
use Rattle.theory.proofs.WorkLaws.{workload_rises}
use Rattle.theory.proofs.MergeLaws.{merged_agrees, merged_bounds}
use Rattle.analysis.specs.Answers.{bound_of}
use Rattle.analysis.proofs.ByRounds.{by_rounds}
use Rattle.waits.specs.Wait.{wait_of}
use Rattle.waits.specs.Answers.{wait_in}
use Rattle.promises.specs.Words.{read_table}
use Rattle.promises.specs.Reads.{Unchanged}
use Rattle.promises.specs.Groups.{SameTogether, Groups, apart, shared, two, one, EitherWay}
use Rattle.promises.proofs.MergedLaws.{AlikeTask, alike_unchanged, without, slots_together, as_typed}
use Rattle.promises.proofs.NoEasierHolds.{one as keeps-one}
use Rattle.promises.proofs.ReadsHold.{verdict_reads}
use Rattle.promises.proofs.AlphaLaws.{wait_same}

-- ---- a group of one resource

of_one : (t : Table) (i k : ℕ) → table_fault t ≡ Ok tt → i < t.n → k < max_resources → ((j : ℕ) → j < max_resources → group_at t j ≡ group_at t k → j ≡ k)
    → pair_at (merged t) i k ≡ pair_at t i k
of_one t i k e h q single = go (ℕ_discrete (group_at t k) 0)
  where
    member : (f : ℕ → ℕ) (j : ℕ) → j < max_resources → member_of t (group_at t k) f j ≡ only (eqb k j) (f k)
    member f j l = by (ℕ_discrete k j)
      where
        by : Dec (k ≡ j) → member_of t (group_at t k) f j ≡ only (eqb k j) (f k)
        by (yes d) = rw (eq-eqb (group_at t j) (group_at t k) (ap (group_at t) (sym d)), eq-eqb k j d) (ap f (sym d))
        by (no d) = rw (ne_eqb (group_at t j) (group_at t k) (λ s. d (sym (single j l s))), ne_eqb k j d)

    summed : (f : ℕ → ℕ) → sum_to max_resources (member_of t (group_at t k) f) ≡ f k
    summed f = sum_eq max_resources _ _ (member f) ∙ sum_single max_resources k (f k) q

    largest : (f : ℕ → ℕ) → max_to max_resources (member_of t (group_at t k) f) ≡ f k
    largest f = max_eq max_resources _ _ (member f) ∙ max_single max_resources k (f k) q

    alone : group_pair t i (group_at t k) ≡ pair_at t i k
    alone = λ j. record { requests = summed (λ j. (pair_at t i j).requests) j; longest = largest (λ j. (pair_at t i j).longest) j; total = summed (total_of (task_at t i)) j }

    go : Dec (group_at t k ≡ 0) → pair_at (merged t) i k ≡ pair_at t i k
    go (yes z) = (merged_agrees t i e h).alone k q z
    go (no d) = (merged_agrees t i e h).first k q (some (group_at t k) d) (λ j l s. absurd (omega (arith, single j (omega arith) s))) ∙ alone
      where
        some : (g : ℕ) → (g ≡ 0 → ⊥) → 1 ≤ g
        some g d = omega arith

-- ---- who is together

module _ (a b : Table) (e : table_fault a ≡ Ok tt) (f : table_fault b ≡ Ok tt) (s : SameTogether a b) where
  alike : (l : ℕ) → l < a.n → AlikeTask (task_at a l) (task_at b l)
  alike l h =
      let x = s.rest.tasks l h in
      record { period = sym x.period; run = sym x.run; deadline = sym x.deadline; pairs = λ k q. sym (x.pairs k q) }

  unchanged : (runs : Level → Type 0) → Unchanged (λ l. Unit) runs (merged_view a) (merged_view b)
  unchanged =
      alike_unchanged a b (sym s.rest.cpus) (sym s.rest.n) alike (slots_together a b s.locks) (λ l g h. absurd (omega (arith, (fine_accepted a e).tasks_most)))

  numbered : (i allowance : ℕ) → i < a.n → bound_of b (level i) allowance ≡ bound_of a (level i) allowance
  numbered i allowance h = verdict_reads.run_below (level (suc i)) a b i (record { first = e; second = f; related = (omega arith, unchanged _) }) h allowance

  numbered_wait : (i : ℕ) → i < a.n → wait_in b (level i) ≡ wait_in a (level i)
  numbered_wait i h =
      ap (λ (A : ℕ). wait_of (merged_view b) A (level i)) (sym (s.rest.tasks i h).alpha) ∙ wait_same (merged_view a) (merged_view b) (unchanged _) (alpha_at a i) i h

-- ---- the promise

pub groups_hold : Groups
groups_hold =
    record {
      one_resource = merged_agrees;
      without = without;
      verdict_without = λ t z allowance i. ap (λ (v : View). counted_by v allowance i) (without t z);
      wait_without = λ t z i. ap (λ (v : View). wait_of v (alpha_at t (pred i.0)) i) (without t z);
      of_one = of_one;
      numbered = numbered;
      numbered_wait = numbered_wait;
      as_typed = as_typed;
      keeps = λ a b e f g w. keeps-one a b (record { first = e; second = f; related = as_typed a b e f g w });
    }

-- ---- either way, computed

pub either_way : EitherWay
unfolding sum_to max_to all_to first_to join_to empty_task empty_table first_fault times_in_range times_in_order times_fault groups_in_range has_group is_unused used_in_range pair_in_range totals_fit pair_fault pairs_fault alpha_fault task_fault last_alpha tasks_fault table_fault rounded fraction time_field count_field field_count cpus_line group_line task_line use_line line_says past_after new_task table_after read_end read_lines read_listing uncapped workload jobs ceil_div ceiling shared_CT other_CT all_CT high_CT DB S O F L demand_with counted_from slot_of merged_pair merged_task grouped_tasks merged_tasks
either_way =
    record {
      before_larger = by_rounds workload workload_rises (merged (read_table apart)) 0 (merged_bounds (read_table apart) refl) (lit< tt) 1 {v = Meets 1_000} refl;
      larger = by_rounds workload workload_rises (merged (read_table shared)) 0 (merged_bounds (read_table shared) refl) (lit< tt) 2 {v = Meets 3_000} refl;
      before_smaller = by_rounds workload workload_rises (merged (read_table two)) 1 (merged_bounds (read_table two) refl) (lit< tt) 3 {v = Meets 5_000} refl;
      smaller = by_rounds workload workload_rises (merged (read_table one)) 1 (merged_bounds (read_table one) refl) (lit< tt) 3 {v = Meets 3_000} refl;
    }
