-- A table is refused exactly as it calls for (specs/Refusals.antt).
-- Assumes nothing.
use Prim.Native.Nat.{ℕ, ◌+◌, ◌≤◌, ◌<◌}
use mathlib.Core.Path.{◌≡◌, refl}
use native.Mathlib.Omega.{arith}
use borrow.Author.Tests.{leb-true, leb-false, le-leb, lt-leb}
use lib.Dec.{leb}
use Rattle.basics.specs.Choice.{within}
use Rattle.basics.specs.Over.{sum_to}
use Rattle.table.specs.declared.Pair.{Pair}
use Rattle.table.specs.declared.Task.{Task}
use Rattle.table.specs.declared.Table.{Table}
use Rattle.table.specs.declared.Fault.TheVariants.{OutOfRange, BadTimes, BadTotals, TooManyTasks, NoTask, AlphaMissing, AlphaRises}
use Rattle.table.specs.Faults.{Checked}
use Rattle.table.specs.Limits.{max_cpus, max_tasks, max_resources, max_alpha}
use Rattle.table.specs.At.{task_at, alpha_at, NoAlpha, pair_of, total_of}
use Rattle.table.specs.Faults.{Refuses, ◌then◌, unless, first_fault}
use Rattle.table.specs.Rules.{times_in_range, times_in_order, all_or_none, may_follow, alpha_fault, pair_in_range, totals_fit, pair_fault, pair_fault_of, pairs_fault, task_fault, alphas_to, last_alpha, task_fault_at, tasks_fault, table_fault, groups_in_range}
use Rattle.table.specs.Accepted.{GoodTo}
use Rattle.table.specs.Refusals.{InRange, TimesInRange, TimesIn, SomeOnly, RisesAt, TaskCallsFor, out_of_range, alpha_out_of_range, alpha_rises, bad_times, pair_out_of_range, bad_totals, GroupsInRange, CallsFor, no_tasks, too_many, bad_cpus, bad_group, alpha_missing, at_task, RefusedAsCalled}
use Rattle.table.proofs.Deciding.{many_decide, is_rule, from_rule, from_two, by_first, fails, failing}
use Rattle.table.proofs.RuleFacts.{range_is, times_range_is, times_order_is, pair_range_is, totals_fit_is}
use Rattle.table.proofs.GroupLaws.{groups_range_is, group_above, above_out}
use Rattle.table.proofs.AlphaLaws.{holds_unless, some_only_is, rises_is}
use Rattle.table.proofs.RuleLaws.{unless_fine, good_times, times_range, times_order}
use Rattle.table.proofs.Acceptance.{good_to, to_fine, alpha_good, alpha_fine, good_at_lem, at_fine, fine_accepted, accepted_fine}

-- ---- one task

module _ (t : Table) (i : ℕ) where
  abbrev x : Task
  x = task_at t i

  abbrev place : ℕ
  place = i + 1

  abbrev order : Checked
  order = unless (times_in_order x.period x.run x.deadline) BadTimes place

  -- what is called for, at the task's place
  abbrev Calls : ℕ → ℕ → Type 0
  Calls k p = TaskCallsFor t i k × (place ≡ p)

  alpha_calls : TimesIn x TimesInRange → (k p : ℕ) → Refuses (alpha_fault place (last_alpha t i) x.alpha) k p → Calls k p
  unfolding alpha_fault
  alpha_calls r k p =
      from_two (unless (leb x.alpha max_alpha) OutOfRange place) (unless (may_follow (last_alpha t i) x.alpha) AlphaRises place) k p
      (from_rule Calls _ OutOfRange place k p (λ e. (alpha_out_of_range r (leb-false _ _ e), refl)))
      (λ f. from_rule Calls _ AlphaRises place k p (λ e. (alpha_rises r (leb-true _ _ (unless_fine _ OutOfRange place f)) ((rises_is t i).0 e), refl)))

  pair_calls : (j : ℕ) → j < max_resources → GoodTo x j → (RisesAt t i → ⊥) → (k p : ℕ) → Refuses (pair_fault_of place x j) k p → Calls k p
  unfolding pair_fault
  pair_calls j h g n k p =
      let q : Pair = pair_of x j in
      let sum = sum_to (j + 1) (total_of x) in
      from_two (unless (pair_in_range q) OutOfRange place) (unless (totals_fit q sum x.run) BadTotals place) k p
      (from_rule Calls _ OutOfRange place k p (λ e. (pair_out_of_range j h g n (fails _ (pair_range_is q).1 e), refl)))
      (λ f. from_rule Calls _ BadTotals place k p
      (λ e. (bad_totals j h g n ((pair_range_is q).0 (unless_fine _ OutOfRange place f)) (fails _ (totals_fit_is q sum x.run).1 e), refl)))

  task_calls : (k p : ℕ) → Refuses (task_fault_at t i) k p → Calls k p
  unfolding task_fault pairs_fault
  task_calls k p =
      let a = times_range_is x.period x.run x.deadline in
      let b = times_order_is x.period x.run x.deadline in
      from_two (unless (times_in_range x.period x.run x.deadline) OutOfRange place) _ k p
      (from_rule Calls _ OutOfRange place k p (λ e. (out_of_range (fails _ a.1 e), refl)))
      (λ f.
      let r = a.0 (unless_fine _ OutOfRange place f) in
      from_two (alpha_fault place (last_alpha t i) x.alpha) _ k p (alpha_calls r k p)
      (λ c.
      let g = alpha_good place (last_alpha t i) x.alpha c in
      let n = (holds_unless _ (rises_is t i)).0 g.1 in
      from_two order (first_fault max_resources (pair_fault_of place x)) k p
      (from_rule Calls _ BadTimes place k p (λ e. (bad_times r g.0 n (fails _ b.1 e), refl)))
      (λ h y.
      let z = (many_decide max_resources (pair_fault_of place x) k p).0 y in
      pair_calls z.0 z.1 (good_to place x z.0 (good_times r (b.0 (unless_fine _ BadTimes place h))) g.0 z.3) n k p z.2)))

  -- what is called for is given: where nothing is said against the times that are in range, and alpha
  alpha_given : (k : ℕ) → TimesIn x TimesInRange → Refuses (alpha_fault place (last_alpha t i) x.alpha) k place → Refuses (task_fault_at t i) k place
  unfolding task_fault
  alpha_given k r y = rw ((times_range_is x.period x.run x.deadline).1 r) (by_first (alpha_fault place (last_alpha t i) x.alpha) _ k place y)

  order_given : (k : ℕ) → TimesIn x TimesInRange → x.alpha ≤ max_alpha → (RisesAt t i → ⊥) → Refuses (order then pairs_fault place x) k place → Refuses (task_fault_at t i) k place
  unfolding task_fault
  order_given k r a n y =
      rw ((times_range_is x.period x.run x.deadline).1 r, alpha_fine place (last_alpha t i) x.alpha a ((holds_unless _ (rises_is t i)).1 n)) y

  -- of a pair, where nothing is said against what comes before it
  pair_given : (j k : ℕ) → j < max_resources → GoodTo x j → (RisesAt t i → ⊥) → Refuses (pair_fault_of place x j) k place → Refuses (task_fault_at t i) k place
  unfolding pairs_fault
  pair_given j k h g n y =
      order_given k (times_range g.times) g.alpha_most n
      (rw ((times_order_is x.period x.run x.deadline).1 (times_order g.times))
      ((many_decide max_resources (pair_fault_of place x) k place).1 (j, h, y, λ m l. to_fine place x j m g l)))

  task_given : {k : ℕ} → TaskCallsFor t i k → Refuses (task_fault_at t i) k place
  unfolding task_fault alpha_fault pair_fault
  task_given (out_of_range n) = by_first _ _ 4 place (is_rule _ OutOfRange place (failing _ (times_range_is x.period x.run x.deadline).0 n))
  task_given (alpha_out_of_range r h) = alpha_given 4 r (by_first _ _ 4 place (is_rule _ OutOfRange place (lt-leb _ _ h)))
  task_given (alpha_rises r h u) = alpha_given 18 r (rw (le-leb x.alpha max_alpha h) (is_rule _ AlphaRises place ((rises_is t i).1 u)))
  task_given (bad_times r h m n) =
      order_given 5 r h m (by_first order _ 5 place (is_rule _ BadTimes place (failing _ (times_order_is x.period x.run x.deadline).0 n)))
  task_given (pair_out_of_range j h g m n) =
      pair_given j 4 h g m (by_first _ _ 4 place (is_rule _ OutOfRange place (failing _ (pair_range_is (pair_of x j)).0 n)))
  task_given (bad_totals j h g m r n) =
      pair_given j 7 h g m
      (rw ((pair_range_is (pair_of x j)).1 r) (is_rule _ BadTotals place (failing _ (totals_fit_is (pair_of x j) (sum_to (j + 1) (total_of x)) x.run).0 n)))

-- ---- the table

module _ (t : Table) where
  abbrev given : ℕ
  given = alphas_to t t.n

  tasks_call : InRange 1 max_tasks t.n → InRange 1 max_cpus t.cpus → GroupsInRange t → (SomeOnly t → ⊥) → (k p : ℕ) → Refuses (first_fault t.n (task_fault_at t)) k p → CallsFor t k p
  tasks_call n m g s k p y =
      let z = (many_decide t.n (task_fault_at t) k p).0 y in
      let c = task_calls t z.0 k p z.2 in
      rw (← c.1) (at_task z.0 n m g s z.1 (λ j l. good_at_lem t j (z.3 j l)) c.0)

  refused_calls : (k p : ℕ) → Refuses (table_fault t) k p → CallsFor t k p
  unfolding table_fault tasks_fault
  refused_calls k p =
      from_two (unless (leb 1 t.n) NoTask 0) _ k p
      (from_rule (CallsFor t) (leb 1 t.n) NoTask 0 k p (λ e. no_tasks (omega (arith, fails _ (le-leb 1 t.n) e))))
      (λ a. from_two (unless (leb t.n max_tasks) TooManyTasks 0) _ k p
      (from_rule (CallsFor t) (leb t.n max_tasks) TooManyTasks 0 k p (λ e. too_many (omega (arith, fails _ (le-leb t.n max_tasks) e))))
      (λ b.
      let n : InRange 1 max_tasks t.n = (leb-true _ _ (unless_fine _ NoTask 0 a), leb-true _ _ (unless_fine _ TooManyTasks 0 b)) in
      from_two (unless (within 1 max_cpus t.cpus) OutOfRange 0) _ k p
      (from_rule (CallsFor t) (within 1 max_cpus t.cpus) OutOfRange 0 k p (λ e. bad_cpus n (fails _ (range_is 1 max_cpus t.cpus).1 e)))
      (λ c.
      let m = (range_is 1 max_cpus t.cpus).0 (unless_fine _ OutOfRange 0 c) in
      from_two (unless (groups_in_range t.groups) OutOfRange 0) _ k p
      (from_rule (CallsFor t) (groups_in_range t.groups) OutOfRange 0 k p (λ e. let z = group_above t e in bad_group z.0 n m z.1 z.2))
      (λ f.
      let g = (groups_range_is t).0 (unless_fine _ OutOfRange 0 f) in
      from_two (unless (all_or_none given t.n) AlphaMissing 0) _ k p
      (from_rule (CallsFor t) (all_or_none given t.n) AlphaMissing 0 k p (λ e. alpha_missing n m g ((some_only_is t).0 e)))
      (λ d. tasks_call n m g ((holds_unless _ (some_only_is t)).0 (unless_fine _ AlphaMissing 0 d)) k p)))))

  calls_refused : (k p : ℕ) → CallsFor t k p → Refuses (table_fault t) k p
  unfolding table_fault tasks_fault
  calls_refused _ _ (no_tasks h) = rw (lt-leb 1 t.n h) (is_rule _ NoTask 0 refl)
  calls_refused _ _ (too_many h) = rw (le-leb 1 t.n (omega arith), lt-leb t.n max_tasks h) (is_rule _ TooManyTasks 0 refl)
  calls_refused _ _ (bad_cpus n m) =
      rw (le-leb 1 t.n n.0, le-leb t.n max_tasks n.1, failing _ (range_is 1 max_cpus t.cpus).0 m) (is_rule _ OutOfRange 0 refl)
  calls_refused _ _ (bad_group k n m h l) =
      rw (le-leb 1 t.n n.0, le-leb t.n max_tasks n.1, (range_is 1 max_cpus t.cpus).1 m, above_out t k h l) (is_rule _ OutOfRange 0 refl)
  calls_refused _ _ (alpha_missing n m g s) =
      rw (le-leb 1 t.n n.0, le-leb t.n max_tasks n.1, (range_is 1 max_cpus t.cpus).1 m, (groups_range_is t).1 g, (some_only_is t).1 s) (is_rule _ AlphaMissing 0 refl)
  calls_refused k _ (at_task i n m g s h before c) =
      rw (le-leb 1 t.n n.0, le-leb t.n max_tasks n.1, (range_is 1 max_cpus t.cpus).1 m, (groups_range_is t).1 g, (holds_unless _ (some_only_is t)).1 s)
      ((many_decide t.n (task_fault_at t) k (i + 1)).1 (i, h, task_given t i c, λ j l. let g = before j l in at_fine t j g.0 g.1))

pub refused_as_called : RefusedAsCalled
refused_as_called =
    record { refused = λ t k p. (refused_calls t k p, calls_refused t k p); accepted = λ t. (fine_accepted t, accepted_fine t) }

-- ---- which numbers a table without alpha calls for: none above 9, and with 1 to 32 tasks none above 7

task_number : {t : Table} {i k : ℕ} → alpha_at t i ≡ 0 → TaskCallsFor t i k → k ≤ 7
task_number z (out_of_range n) = omega arith
task_number z (alpha_out_of_range r h) = omega arith
task_number z (alpha_rises r h u) = absurd (omega (arith, u.above))
task_number z (bad_times r h m n) = omega arith
task_number z (pair_out_of_range j h g m n) = omega arith
task_number z (bad_totals j h g m r n) = omega arith

pub number_few : {t : Table} {k p : ℕ} → NoAlpha t → InRange 1 max_tasks t.n → CallsFor t k p → k ≤ 7
number_few z n (no_tasks h) = absurd (omega (arith, n.0))
number_few z n (too_many h) = absurd (omega (arith, n.1))
number_few z n (bad_cpus _ m) = omega arith
number_few z n (bad_group k _ m h l) = omega arith
number_few z n (alpha_missing _ m g s) = absurd (omega (arith, z s.with s.with_in, s.given))
number_few z n (at_task i _ m g s h before c) = task_number (z i h) c

pub number_most : {t : Table} {k p : ℕ} → NoAlpha t → CallsFor t k p → k ≤ 9
number_most z (no_tasks h) = omega arith
number_most z (too_many h) = omega arith
number_most z (bad_cpus n m) = omega arith
number_most z (bad_group k n m h l) = omega arith
number_most z (alpha_missing n m g s) = omega (arith, number_few z n (alpha_missing n m g s))
number_most z (at_task i n m g s h before c) = omega (arith, task_number (z i h) c)
