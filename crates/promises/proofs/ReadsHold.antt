-- What a verdict reads: the promise holds.
-- Assumes nothing.
use Prim.Native.Nat.{ℕ, ◌≤◌, ◌<◌}
use mathlib.Core.Path.{◌≡◌, refl, sym, ap, ap₂, ◌∙◌}
use mathlib.Core.Bool.{true, false}
use mathlib.Core.List.{List}
use native.Mathlib.Omega.{arith}
use borrow.Author.Tests.{eq-eqb}
use lib.Dec.{T, ltb, eqb, lit<}
use Rattle.basics.specs.Choice.{pick}
use Rattle.basics.specs.Exactly.{◌exactly_if◌}
use Rattle.table.specs.declared.Level.{Level}
use Rattle.table.specs.declared.Table.{Table}
use Rattle.std.specs.Prelude.{Ok}
use Rattle.table.specs.Rules.{table_fault}
use Rattle.theory.specs.declared.Verdict.{Verdict}
use Rattle.theory.specs.declared.Verdict.TheVariants.{Meets, Misses}
use Rattle.theory.specs.declared.Counted.{Counted}
use Rattle.theory.specs.View.{View, level}
use Rattle.theory.specs.Demand.{units_read}
use Rattle.theory.specs.Bound.{Least, None}
use Rattle.theory.specs.Rounds.{counted_from}
use Rattle.theory.specs.Tables.{merged_view, counted_by, counted_in}
use Rattle.analysis.specs.Answers.{bound_fault, or_answer, bound_of}
use Rattle.page.specs.Report.{report_allowance}
use Rattle.promises.specs.Demand2.{demand_in, deadline_in}
use Rattle.promises.specs.NoEasier.{Related}
use Rattle.promises.specs.NotEmpty.{on, Moves, Lost}
use Rattle.page.specs.declared.Columns.{Columns}
use Rattle.promises.specs.Rounds.{PrintsRows}
use Rattle.promises.specs.Reads.{Reads, FigureKind, processors, tasks, run, deadline, requests, period_above, deadline_above, shared, other, free, period_below, deadline_below, high, longest, AgreeOn, SameRead, SameBut, SameWhereRead, SameByFirst, SameAnswers, OnlyRun, VerdictReads}
use Rattle.promises.proofs.Demand2Holds.{demand2}
use Rattle.promises.proofs.ThreeTasks.{some_allowed}
use Rattle.promises.proofs.RoundsHold.{rounds_hold}
use Rattle.promises.proofs.ReadsLaws.{fine_fitting, units_read_lem, read_units}
use Rattle.promises.proofs.SameReadLaws.{demand_same, units_same}
use Rattle.promises.proofs.ReachedLaws.{NotReached}
use Rattle.promises.proofs.OnlyRunLaws.{same_above}
use Rattle.promises.proofs.EachReadHolds.{each_read}

-- the faults are the same, and so are the rounds, whose demand, deadline and run time are
same : SameAnswers SameRead
unfolding bound_of bound_fault counted_by AgreeOn
same a b i r h allowance =
    let q = r.related in
    let demand = demand_same (merged_view a) (merged_view b) (fine_fitting a r.first) (level i) q in
    let counted : counted_in b allowance (level i) ≡ counted_in a allowance (level i) = λ x. counted_from (λ t. demand t x) (q deadline x) allowance (q run x) in
    let fault : bound_fault b (level i) allowance ≡ bound_fault a (level i) allowance = rw (r.first, r.second, q tasks) in
    ap₂ (λ c k. or_answer c (Ok k)) fault counted

printed : (columns : Columns) (s s' : List ℕ) (a b : Table) (allowance i : ℕ) (row row' : ℕ → Counted) → PrintsRows columns allowance s a row → PrintsRows columns allowance s' b row' → i < a.n
    → Related (λ v w. SameRead v w (level i)) a b → row' i ≡ row i
unfolding AgreeOn
printed columns s s' a b allowance i row row' p q h r =
    let e : Ok (row' i) ≡ Ok (row i) = sym (q.answer i (omega (arith, r.related tasks))) ∙ same a b i r h allowance ∙ p.answer i h in
    cc

run_below : (j : Level) → SameAnswers (λ v w i. NotReached i j × OnlyRun j v w)
run_below j a b i r h =
    same a b i (record { first = r.first; second = r.second; related = same_above j (merged_view a) (merged_view b) r.related.1 i h r.related.0 }) h

reads_units : (t : Table) (i l : ℕ) → table_fault t ≡ Ok tt → l < t.n
    → Reads (merged_view t) (level i) (level l) exactly_if (1 ≤ units_read (merged_view t) (level i) (level l))
reads_units t i l e h = (read_units (merged_view t) (fine_fitting t e) (level i) l h, units_read_lem (merged_view t) (fine_fitting t e) (level i) l h)

read_in_both : (a b : Table) (i l : ℕ) → Related (λ v w. SameRead v w (level i)) a b → l < a.n
    → Reads (merged_view a) (level i) (level l) exactly_if Reads (merged_view b) (level i) (level l)
unfolding AgreeOn
read_in_both a b i l r h =
    let p = reads_units a i l r.first h in
    let q = reads_units b i l r.second (omega (arith, r.related tasks)) in
    let e = units_same (merged_view a) (merged_view b) (level i) r.related l h in
    (λ x. q.1 (rw e (p.0 x)), λ x. p.1 (rw e at (q.0 x)))

-- ---- that no kind can be left out

-- what is known of a task's bound is what `bound` answers under the allowance of `report`
module _ (t : Table) (i : ℕ) (e : table_fault t ≡ Ok tt) (h : i < t.n) where
  answers : (v : Verdict) → (demand2.verdicts t i report_allowance e h some_allowed).0.verdict ≡ v → (n : ℕ) × (bound_of t (level i) report_allowance ≡ Ok (record { verdict = v; rounds = n }))
  answers v q =
      let d = demand2.verdicts t i report_allowance e h some_allowed in
      (d.0.rounds, d.1 ∙ ap (λ (w : Verdict). Ok (record { verdict = w; rounds = d.0.rounds })) q)

  meets : (u : ℕ) → Least (demand_in t i) (deadline_in t i) u → (n : ℕ) × (bound_of t (level i) report_allowance ≡ Ok (record { verdict = Meets u; rounds = n }))
  meets u l =
      let d = demand2.verdicts t i report_allowance e h some_allowed in
      answers (Meets u) ((d.2.meets (rounds_hold.never_open t i d.0 d.1) u).1 l)

  misses : None (demand_in t i) (deadline_in t i) → (n : ℕ) × (bound_of t (level i) report_allowance ≡ Ok (record { verdict = Misses; rounds = n }))
  misses l =
      let d = demand2.verdicts t i report_allowance e h some_allowed in
      answers Misses ((d.2.misses (rounds_hold.never_open t i d.0 d.1)).1 l)

-- one answer has one verdict
one_verdict : (t t' : Table) (i : ℕ) {v v' : Verdict} {n n' : ℕ} → bound_of t (level i) report_allowance ≡ Ok (record { verdict = v; rounds = n })
    → bound_of t' (level i) report_allowance ≡ Ok (record { verdict = v'; rounds = n' }) → bound_of t' (level i) report_allowance ≡ bound_of t (level i) report_allowance → v' ≡ v
one_verdict t t' i {v} {v'} {n} {n'} x y e =
    let known : Ok (record { verdict = v'; rounds = n' }) ≡ Ok (record { verdict = v; rounds = n }) = sym y ∙ e ∙ x in
    let counted : ◌≡◌ {A = Counted} (record { verdict = v'; rounds = n' }) (record { verdict = v; rounds = n }) = cc in
    ap (λ (r : Counted). r.verdict) counted

-- so two bounds, or a bound and a miss, are no one answer
module _ (R : View → View → Level → Type 0) {a b : Table} {i u : ℕ} (h : T (ltb i a.n)) (h' : T (ltb i b.n)) where
  moved : {w : ℕ} → Moves (λ v w. R v w (level i)) a b i u w → eqb u w ≡ false → SameAnswers R → ⊥
  moved {w} m d s =
      let x = meets a i m.related.first (lit< h) u m.before in
      let y = meets b i m.related.second (lit< h') w m.after in
      let same : Meets w ≡ Meets u = one_verdict a b i x.1 y.1 (s a b i m.related (lit< h) report_allowance) in
      let equal : eqb u w ≡ true = eq-eqb u w cc in
      let z : ◌≡◌ {A = ℕ} 0 1 = ap (λ c. pick c 0 1) (sym equal ∙ d) in
      omega arith

  missed : Lost (λ v w. R v w (level i)) a b i u → SameAnswers R → ⊥
  missed m s =
      let x = meets a i m.related.first (lit< h) u m.before in
      let y = misses b i m.related.second (lit< h') m.after in
      let same : Misses ≡ Meets u = one_verdict a b i x.1 y.1 (s a b i m.related (lit< h) report_allowance) in
      let z : ◌≡◌ {A = ℕ} 0 1 = cc in
      omega arith

needed : (k : FigureKind) → SameAnswers (SameBut k) → ⊥
unfolding on
needed processors = moved (SameBut processors) tt tt each_read.told.processors_told refl
needed tasks = moved (SameBut tasks) tt tt each_read.told.tasks_told refl
needed run = moved (SameBut run) tt tt each_read.told.run_told refl
needed deadline = missed (SameBut deadline) tt tt each_read.told.deadline_told
needed requests = moved (SameBut requests) tt tt each_read.told.requests_told refl
needed period_above = moved (SameBut period_above) tt tt each_read.told.period_above_told refl
needed deadline_above = moved (SameBut deadline_above) tt tt each_read.told.deadline_above_told refl
needed shared = moved (SameBut shared) tt tt each_read.told.shared_told refl
needed other = moved (SameBut other) tt tt each_read.told.other_told refl
needed free = moved (SameBut free) tt tt each_read.told.free_told refl
needed period_below = moved (SameBut period_below) tt tt each_read.told.period_below_told refl
needed deadline_below = moved (SameBut deadline_below) tt tt each_read.told.deadline_below_told refl
needed high = moved (SameBut high) tt tt each_read.told.high_told refl
needed longest = moved (SameBut longest) tt tt each_read.told.longest_told refl

not_enough : SameAnswers SameWhereRead → ⊥
unfolding on
not_enough = moved SameWhereRead tt tt each_read.begins refl

own_ceilings : SameAnswers SameByFirst → ⊥
unfolding on
own_ceilings = moved SameByFirst tt tt each_read.lifts refl

pub verdict_reads : VerdictReads
verdict_reads =
    record {
      same = same;
      printed = printed;
      run_below = run_below;
      needed = needed;
      not_enough = not_enough;
      own_ceilings = own_ceilings;
      reads_units = reads_units;
      read_in_both = read_in_both;
    }
