-- The bounds that are printed are bounds on response times.
-- Assumes nothing.
use Prim.Native.Nat.{ℕ, zero, suc, ◌+◌, ◌*◌, ◌≤◌, ◌<◌}
use mathlib.Core.Path.{◌≡◌, refl, sym, subst, ap, ◌∙◌}
use mathlib.Core.Bool.{true}
use mathlib.Core.List.{List}
use native.Mathlib.Nat.{le_refl}
use native.Mathlib.Omega.{arith}
use lib.Dec.{ltb, lit<, lit≤}
use borrow.Author.Tests.{ltb-true}
use lib.ListN.{get_or}
use Rattle.basics.specs.Over.{sum_to, all_to}
use Rattle.basics.specs.Text.{bytes}
use Rattle.table.specs.declared.Table.{Table}
use Rattle.std.specs.Prelude.{Ok}
use Rattle.table.specs.Empty.{empty_task, empty_table}
use Rattle.table.specs.Answers.{accepted}
use Rattle.table.specs.Faults.{first_fault}
use Rattle.table.specs.Rules.{times_in_range, times_in_order, times_fault, is_unused, used_in_range, pair_in_range, totals_fit, pair_fault, pairs_fault, alpha_fault, task_fault, last_alpha, tasks_fault, table_fault, groups_in_range, has_group}
use Rattle.theory.specs.declared.Verdict.TheVariants.{Meets}
use Rattle.field.specs.Number.{rounded, fraction, time_field, count_field}
use Rattle.line.specs.Fields.{field_count}
use Rattle.line.specs.Line.{cpus_line, task_line, use_line, line_says, group_line}
use Rattle.listing.specs.Read.{past_after, new_task, table_after, read_end, read_lines, read_listing}
use Rattle.theory.specs.declared.Counted.{Counted}
use Rattle.theory.specs.Work.{workload}
use Rattle.page.specs.Report.{report_allowance}
use Rattle.theory.specs.View.{View, level}
use Rattle.theory.specs.Demand.{all_CT}
use Rattle.theory.specs.Bound.{Least}
use Rattle.theory.specs.Tables.{merged_view, counted_by, counted_in}
use Rattle.theory.specs.Merge.{merged_tasks, merged}
use Rattle.theory.proofs.MergeLaws.{merged_bounds}
use Rattle.theory.proofs.WorkLaws.{workload_rises}
use Rattle.schedules.specs.Jobs.{Generated}
use Rattle.schedules.specs.Schedule.{UnderPIP}
use Rattle.schedules.specs.Picture.{jobs_of, run_of}
use Rattle.schedules.specs.Theorem.{Constrained, Closed}
use Rattle.schedules.specs.Shown.{shown_table, shown_bounds, miss_table, miss_picture}
use Rattle.schedules.proofs.TheoremHolds.{theorem1_holds}
use Rattle.schedules.proofs.ShownHolds.{shown_holds}
use Rattle.schedules.proofs.MissHolds.{miss_holds}
use Rattle.analysis.specs.Answers.{bound_of}
use Rattle.analysis.proofs.ByRounds.{rounds_right, known}
use Rattle.page.specs.declared.Columns.{Columns}
use Rattle.page.specs.declared.Columns.TheVariants.{Five}
use Rattle.promises.specs.Demand2.{demand_in, deadline_in}
use Rattle.promises.specs.Rounds.{PrintsRows}
use Rattle.promises.specs.Responds.{NoJobLonger, RowsMeet, ReadNoOther, InTurn, further, shown_listing, miss_listing, Responds}
use Rattle.promises.proofs.Demand2Holds.{demand2}
use Rattle.promises.proofs.RoundsHold.{rounds_hold}
use Rattle.promises.proofs.ThreeTasks.{some_allowed}
use Rattle.promises.proofs.ReadsLaws.{fine_fitting, units_read_lem}

no_requests : (N total : ℕ) → (1 ≤ total → ltb 0 N ≡ true) → N ≡ 0 → total ≡ 0
no_requests N zero u z = refl
no_requests N (suc x) u z = absurd (omega (arith, ltb-true 0 N (u (omega arith))))

fine_constrained : (t : Table) → table_fault t ≡ Ok tt → Constrained (merged_view t)
unfolding all_CT
fine_constrained t e =
    let a = merged_bounds t e in
    record {
      some = a.cpus_least;
      positive = λ l h. let g = (a.task l h).times in omega arith;
      run = λ l h. (a.task l h).times.run_deadline;
      deadline = λ l h. (a.task l h).times.deadline_period;
      totals = λ l h. (a.task l h).totals;
      unused = λ l k h m z. no_requests _ _ ((fine_fitting t e).used l k h m) z;
    }

-- what `bound` answers with `meets` is the least length that covers its demand
met_least : (t : Table) (i allowance : ℕ) (r : Counted) (u : ℕ) → bound_of t (level i) allowance ≡ Ok r → r.verdict ≡ Meets u → Least (demand_in t i) (deadline_in t i) u
unfolding counted_by
met_least t i allowance r u e m =
    let k = known t i allowance e in
    let v : (counted_in t allowance (level i)).verdict ≡ Meets u = ap (λ (c : Counted). c.verdict) k.3 ∙ m in
    rw v at (rounds_right workload workload_rises (merged t) i (merged_bounds t k.0) k.1 allowance)

-- a set of tasks that read no others is closed
reads_closed : (t : Table) → table_fault t ≡ Ok tt → (X : ℕ → Type 0) → ReadNoOther t X → Closed (merged_view t) X
reads_closed t fine X c i l h x k u = c i l h x k (units_read_lem (merged_view t) (fine_fitting t fine) (level i) l k u)

others_meet : (columns : Columns) (allowance : ℕ) (s : List ℕ) (t : Table) (row : ℕ → Counted) (X : ℕ → Type 0) (micros : ℕ → ℕ) → PrintsRows columns allowance s t row
    → ReadNoOther t X → RowsMeet t row X micros → NoJobLonger t X micros
others_meet columns allowance s t row X micros p c m k pos J o S E r i h x =
    let fine : table_fault t ≡ Ok tt = (known t i allowance (p.answer i h)).0 in
    let least : (i : ℕ) → i < t.n → X i → Least (demand_in t i) (deadline_in t i) (micros i) = λ i h x. met_least t i allowance (row i) (micros i) (p.answer i h) (m i h x) in
    theorem1_holds.bounds (merged_view t) (fine_constrained t fine) X (reads_closed t fine X c) micros
    (record { low = λ i h x. (least i h x).low; high = λ i h x. (least i h x).high; covers = λ i h x. (least i h x).meets }) k pos J o S E r i h x

shown_listing_holds : read_listing (bytes shown_listing) ≡ accepted shown_table
unfolding shown_table sum_to empty_task empty_table first_fault times_in_range times_in_order times_fault is_unused used_in_range pair_in_range totals_fit pair_fault pairs_fault alpha_fault task_fault last_alpha tasks_fault table_fault rounded fraction time_field count_field field_count cpus_line task_line use_line line_says past_after new_task table_after read_end read_lines read_listing groups_in_range all_to group_line
shown_listing_holds = refl

miss_listing_holds : read_listing (bytes miss_listing) ≡ accepted miss_table
unfolding miss_table sum_to empty_task empty_table first_fault times_in_range times_in_order times_fault is_unused used_in_range pair_in_range totals_fit pair_fault pairs_fault alpha_fault task_fault last_alpha tasks_fault table_fault rounded fraction time_field count_field field_count cpus_line task_line use_line line_says past_after new_task table_after read_end read_lines read_listing groups_in_range all_to group_line
miss_listing_holds = refl

-- what `report` says of a task that has a bound
least_met : (s : List ℕ) (t : Table) (row : ℕ → Counted) → PrintsRows Five report_allowance s t row → (i u : ℕ) → i < t.n → Least (demand_in t i) (deadline_in t i) u → (row i).verdict ≡ Meets u
least_met s t row p i u h l =
    let k = known t i report_allowance (p.answer i h) in
    let v = demand2.verdicts t i report_allowance k.0 h some_allowed in
    let same : v.0 ≡ row i = sym (known t i report_allowance v.1).3 ∙ k.3 in
    ap (λ (c : Counted). c.verdict) (sym same) ∙ (v.2.meets (rounds_hold.never_open t i v.0 v.1) u).1 l

shown_rows : (row : ℕ → Counted) × PrintsRows Five report_allowance (bytes shown_listing) shown_table row × RowsMeet shown_table row (λ i. Unit) (λ i. get_or shown_bounds i 0)
unfolding shown_table merged_tasks has_group all_to
shown_rows =
    let p = rounds_hold.prints Five report_allowance (bytes shown_listing) shown_table some_allowed shown_listing_holds in
    (p.0, p.1, λ i h x. least_met (bytes shown_listing) shown_table p.0 p.1 i (get_or shown_bounds i 0) h (shown_holds.bounded i h))

not_alone : ((columns : Columns) (allowance : ℕ) (s : List ℕ) (t : Table) (row : ℕ → Counted) (i u : ℕ) → PrintsRows columns allowance s t row → i < t.n → (row i).verdict ≡ Meets u → NoJobLonger t (λ l. l ≡ i) (λ l. u)) → ⊥
unfolding miss_table jobs_of merged_tasks has_group all_to
not_alone claim =
    let p = rounds_hold.prints Five report_allowance (bytes miss_listing) miss_table some_allowed miss_listing_holds in
    let m = least_met (bytes miss_listing) miss_table p.0 p.1 1 4 (lit< tt) miss_holds.meets in
    let e = sym (theorem1_holds.whole (merged_view miss_table)) in
    let g = subst (λ (v : View). Generated v (jobs_of miss_picture)) e miss_holds.generated in
    let r = subst (λ (v : View). UnderPIP v (jobs_of miss_picture) (run_of miss_picture) 11) e miss_holds.scheduled in
    miss_holds.longer (claim Five report_allowance (bytes miss_listing) miss_table p.0 1 4 p.1 (lit< tt) m 1 (le_refl 1) (jobs_of miss_picture) g (run_of miss_picture) 11 r 1 (lit< tt) refl 0 11 due (le_refl 11))
  where
    due : (jobs_of miss_picture).release 1 0 + 1 * 4 ≤ 11
    due = lit≤ tt

pub responds_hold : Responds
responds_hold =
    record {
      all_meet = λ columns allowance s t row micros p m. others_meet columns allowance s t row (λ i. Unit) micros p (λ i l h x k u. tt) m;
      read_meet = λ columns allowance s t row i micros p m. others_meet columns allowance s t row (InTurn t i) micros p (λ q l h x k r. further q l h x r) m;
      others_meet = others_meet;
      not_alone = not_alone;
      theorem1 = theorem1_holds;
      shown = shown_holds;
      shown_listing_holds = shown_listing_holds;
      shown_rows = shown_rows;
      beside_miss = miss_holds;
      miss_listing_holds = miss_listing_holds;
    }
