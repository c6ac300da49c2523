-- Request 6/12 holds.
-- Assumes nothing.
use Prim.Native.Nat.{ℕ, ◌+◌, ◌-◌, ◌≤◌, ◌<◌}
use mathlib.Core.Path.{◌≡◌, refl, ap, ◌∙◌}
use mathlib.Core.List.{List}
use native.Mathlib.Nat.{le_trans}
use native.Mathlib.Omega.{arith}
use lib.Dec.{lit<, lit≤}
use Rattle.basics.specs.Over.{sum_to, max_to, all_to, first_to}
use Rattle.table.specs.declared.Table.{Table}
use Rattle.std.specs.Prelude.{Ok}
use Rattle.table.specs.Faults.{first_fault}
use Rattle.table.specs.Rules.{times_in_range, times_in_order, times_fault, is_unused, used_in_range, pair_in_range, totals_fit, pair_fault, pairs_fault, alpha_fault, task_fault, last_alpha, tasks_fault, table_fault, groups_in_range, has_group}
use Rattle.table.specs.Answers.{accepted}
use Rattle.listing.specs.Read.{read_listing}
use Rattle.theory.specs.declared.Verdict.{Verdict}
use Rattle.theory.specs.declared.Verdict.TheVariants.{Meets, Open}
use Rattle.theory.specs.declared.Counted.{Counted}
use Rattle.theory.specs.Work.{uncapped, workload, jobs, ceil_div}
use Rattle.theory.specs.View.{level, ceiling}
use Rattle.theory.specs.Demand.{shared_CT, other_CT, all_CT, high_CT, DB, S, O, F, L, demand_with}
use Rattle.theory.specs.Rounds.{counted_from}
use Rattle.theory.specs.Tables.{merged_view, counted_by, counted_in}
use Rattle.theory.proofs.WorkLaws.{workload_rises}
use Rattle.theory.proofs.RoundLaws.{counts_unique}
use Rattle.theory.proofs.AllowanceLaws.{open_rounds, settled_rounds, going_open, open_count, rounds_most}
use Rattle.analysis.specs.Answers.{bound_of}
use Rattle.analysis.proofs.ByRounds.{rounds_end, under_more, bound_known, known}
use Rattle.page.specs.declared.Columns.{Columns}
use Rattle.page.specs.declared.Columns.TheVariants.{Five}
use Rattle.page.specs.Report.{report_allowance, bench_allowance}
use Rattle.meaning.proofs.Meaning.{passes_check}
use Rattle.theory.specs.Merge.{merged_tasks, merged}
use Rattle.theory.proofs.MergeLaws.{merged_bounds}
use Rattle.promises.specs.Demand2.{deadline_in, run_in, CountIn}
use Rattle.promises.specs.NoEasier.{NoEasier, Related}
use Rattle.promises.specs.NotEmpty.{on, tasks_A}
use Rattle.promises.specs.Rounds.{RightRounds, PrintsRows, KeptInPrint, Overtakes, Rounds}
use Rattle.promises.proofs.Demand2Holds.{demand2}
use Rattle.promises.proofs.ReportLaws.{report_accepted}
use Rattle.promises.proofs.ThreeTasks.{some_allowed}
use Rattle.promises.proofs.ComparedByTest.{at_most, equal, any, rules}
use Rattle.promises.proofs.NotEmptyHolds.{related_by}
use Rattle.promises.proofs.NoEasierHolds.{one}

module _ (t : Table) (i : ℕ) (fine : table_fault t ≡ Ok tt) (h : i < t.n) where
  -- the count, and that it is at most D − C + 1
  end : (n : ℕ) × CountIn t i n × (n ≤ deadline_in t i - run_in t i + 1)
  end = rounds_end workload workload_rises (merged t) i (merged_bounds t fine) h

  rounds_of : (allowance : ℕ) → RightRounds t i allowance (counted_in t allowance (level i))
  unfolding counted_by
  rounds_of allowance =
      record {
        runs_out = (λ e. (open_rounds _ _ allowance _ e).1, going_open _ _ allowance _);
        used_up = λ e. (open_rounds _ _ allowance _ e).0;
        counted = λ q. (settled_rounds _ _ allowance _ q).1;
        most = le_trans (rounds_most _ _ allowance _ end.0 end.1) end.2;
      }

right : (t : Table) (i allowance : ℕ) (r : Counted) → bound_of t (level i) allowance ≡ Ok r → RightRounds t i allowance r
right t i allowance r e = let k = known t i allowance e in rw k.3 at (rounds_of t i k.0 k.1 allowance)

never_open : (t : Table) (i : ℕ) (r : Counted) → bound_of t (level i) report_allowance ≡ Ok r → r.verdict ≡ Open → ⊥
unfolding counted_by report_allowance
never_open t i r e o =
    let k = known t i report_allowance e in
    let c = end t i k.0 k.1 in
    let g = ((merged_bounds t k.0).task i k.1).times in
    omega (arith, c.2, open_count _ _ report_allowance _ c.0 c.1 (ap (λ (r : Counted). r.verdict) k.3 ∙ o))

-- what `report` answers of a task in the second is a bound, so there is one in the first, no larger, and it answers that
kept : (a b : Table) → Related NoEasier a b → (i : ℕ) → i < a.n → (u n : ℕ) → bound_of b (level i) report_allowance ≡ Ok (record { verdict = Meets u; rounds = n })
    → (w : ℕ) × (m : ℕ) × (bound_of a (level i) report_allowance ≡ Ok (record { verdict = Meets w; rounds = m })) × (w ≤ u)
kept a b r i h u n e =
    let k = known b i report_allowance e in
    let v = demand2.verdicts b i report_allowance k.0 k.1 k.2 in
    let l = (v.2.meets (never_open b i v.0 v.1) u).0 (cc v.1) in
    let d = one a b r i h u l in
    let x = demand2.verdicts a i report_allowance r.first h k.2 in
    (d.0, x.0.rounds, x.1 ∙ ap (λ (w : Verdict). Ok (record { verdict = w; rounds = x.0.rounds })) ((x.2.meets (never_open a i x.0 x.1) d.0).1 d.1), d.2)

prints : (columns : Columns) (allowance : ℕ) (s : List ℕ) (t : Table) → 1 ≤ allowance → read_listing s ≡ accepted t → (row : ℕ → Counted) × PrintsRows columns allowance s t row
prints columns allowance s t h e =
    (λ i. counted_in t allowance (level i), record { table = e; text = report_accepted columns allowance s t h e; answer = λ i l. bound_known t i allowance (passes_check s t e) l h })

printed : (s s' : List ℕ) (a b : Table) → read_listing s ≡ accepted a → read_listing s' ≡ accepted b → NoEasier (merged_view a) (merged_view b) → KeptInPrint s s' a b
unfolding prints
printed s s' a b e f r =
    let x = prints Five report_allowance s a some_allowed e in
    let y = prints Five report_allowance s' b some_allowed f in
    record {
      row = x.0;
      row' = y.0;
      first = x.1;
      second = y.1;
      kept = λ i u h m.
          let met = ap (λ (v : Verdict). Ok (record { verdict = v; rounds = (y.0 i).rounds })) m in
          let k = kept a b (record { first = passes_check s a e; second = passes_check s' b f; related = r }) i h u _ (y.1.answer i (omega (arith, r.n)) ∙ met) in
          (k.0, ap (λ (c : Counted). c.verdict) (known a i report_allowance k.2).3, k.3);
    }

overtakes : Overtakes (on 2 tasks_A) (on 1 tasks_A) 2 bench_allowance 22_000 4
unfolding bench_allowance on all_to rules sum_to max_to first_to first_fault times_in_range times_in_order times_fault is_unused used_in_range pair_in_range totals_fit pair_fault pairs_fault alpha_fault task_fault last_alpha tasks_fault table_fault uncapped workload jobs ceil_div ceiling shared_CT other_CT all_CT high_CT DB S O F L demand_with counted_from counted_by groups_in_range merged_tasks has_group
overtakes =
    record {
      harder = related_by at_most equal any refl refl refl;
      first = bound_known _ 2 5 refl (lit< tt) (lit≤ tt) ∙ ap Ok refl;
      second = bound_known _ 2 5 refl (lit< tt) (lit≤ tt) ∙ ap Ok refl;
    }

pub rounds_hold : Rounds
rounds_hold =
    record {
      right = right;
      count = λ t i fine h. let c = end t i fine h in (c.0, c.1, λ m d. counts_unique _ _ _ m c.0 d c.1, c.2);
      stays = λ t i A B r h e q.
          let k = known t i A e in
          bound_known t i B k.0 k.1 (le_trans k.2 h) ∙ ap Ok (under_more t i A B h k.3 q);
      prints = prints;
      never_open = never_open;
      kept = kept;
      printed = printed;
      overtakes = overtakes;
    }
