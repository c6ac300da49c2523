-- What the fields of a line call for is what its rules from 3 on refuse with: of a `cpus` and of a `task` line.
-- Assumes nothing.
use Prim.Native.Nat.{ℕ}
use mathlib.Core.Path.{◌≡◌, refl}
use mathlib.Core.Bool.{Bool, true, ◌&&◌}
use mathlib.Core.List.{List}
use native.Mathlib.Omega.{arith}
use borrow.Author.Tests.{ltb-true, lt-ltb, le-ltb}
use lib.Dec.{ltb}
use Rattle.std.specs.Prelude.{Option}
use Rattle.basics.specs.Choice.{within}
use Rattle.basics.specs.Exactly.{◌exactly_if◌}
use Rattle.basics.proofs.ChoiceLaws.{and_true}
use Rattle.table.specs.declared.Fault.TheVariants.{BadField, OutOfRange, BadTimes, TooManyTasks}
use Rattle.table.specs.Faults.{Checked}
use Rattle.table.specs.Limits.{max_cpus, max_tasks}
use Rattle.table.specs.Faults.{Refuses, ◌then◌, unless}
use Rattle.table.specs.Rules.{times_in_range, times_in_order, times_fault}
use Rattle.table.proofs.Deciding.{is_rule, from_rule, from_two, by_first, fails, failing}
use Rattle.table.proofs.RuleFacts.{range_is, times_range_is, times_order_is}
use Rattle.table.proofs.RuleLaws.{unless_fine}
use Rattle.field.specs.declared.Field.{Field}
use Rattle.field.specs.declared.Rounding.TheVariants.{Down, Up}
use Rattle.field.specs.Number.{first, time_field, count_field}
use Rattle.field.specs.Spelling.{Time, StatesCount}
use Rattle.line.specs.declared.Past.{Past}
use Rattle.line.specs.Line.{formed, value}
use Rattle.line.specs.Stated.{StatesTask}
use Rattle.line.specs.Refusals.{CpusLineCalls, TaskLineCalls}
use Rattle.line.proofs.StatedLaws.{formed_states, count_in_lem, time_in_lem, count_stated, time_stated}

-- ---- `cpus M`

module _ (n : ℕ) {m : List ℕ} (a : first m ≡ m) where
  abbrev pub cpus_check : Checked
  cpus_check = unless (formed (count_field m)) BadField n then unless (within 1 max_cpus (value (count_field m))) OutOfRange n

  abbrev CpusCalls : ℕ → ℕ → Type 0
  CpusCalls k p = CpusLineCalls m k × (n ≡ p)

  pub count_formed : (formed (count_field m) ≡ true) exactly_if ((M : ℕ) × StatesCount m M)
  count_formed = (λ e. (_, count_in_lem a (formed_states (count_field m) e)), λ s. rw (count_stated s.1).is)

  pub cpus_calls : (k p : ℕ) → Refuses cpus_check k p → CpusCalls k p
  cpus_calls k p =
      let M : Option Field = count_field m in
      from_two (unless (formed M) BadField n) (unless (within 1 max_cpus (value M)) OutOfRange n) k p
      (from_rule CpusCalls (formed M) BadField n k p (λ e. (CpusLineCalls.bad_field (λ M s. fails _ count_formed.1 e (M, s)), refl)))
      (λ f. from_rule CpusCalls (within 1 max_cpus (value M)) OutOfRange n k p
      (λ e. (CpusLineCalls.out_of_range (count_in_lem a (formed_states M (unless_fine _ BadField n f))) (fails _ (range_is 1 max_cpus (value M)).1 e), refl)))

  pub cpus_given : {k : ℕ} → CpusLineCalls m k → Refuses cpus_check k n
  cpus_given (CpusLineCalls.bad_field h) = by_first _ _ 3 n (is_rule (formed (count_field m)) BadField n (failing _ count_formed.0 (λ s. h s.0 s.1)))
  cpus_given (CpusLineCalls.out_of_range {M} s h) = rw (count_stated s).is (is_rule (within 1 max_cpus M) OutOfRange n (failing _ (range_is 1 max_cpus M).0 h))

-- ---- `task T C D`

module _ (past : Past) (n : ℕ) {t c d : List ℕ} (a : first t ≡ t) (b : first c ≡ c) (e : first d ≡ d) where
  abbrev T : Option Field
  T = time_field Down t

  abbrev C : Option Field
  C = time_field Up c

  abbrev D : Option Field
  D = time_field Down d

  abbrev times_formed : Bool
  times_formed = formed T && formed C && formed D

  abbrev pub task_check : Checked
  task_check = unless times_formed BadField n then unless (ltb past.tasks max_tasks) TooManyTasks n then times_fault n (value T) (value C) (value D)

  abbrev TaskCalls : ℕ → ℕ → Type 0
  TaskCalls k p = TaskLineCalls past t c d k × (n ≡ p)

  -- the times that the fields state are those that are read
  record TaskStated : Type 0 where
    times : ℕ × ℕ × ℕ
    states : StatesTask t c d (record { typed = times.0; held = value T }) (record { typed = times.1; held = value C }) (record { typed = times.2; held = value D })

  task_stated : times_formed ≡ true → TaskStated
  task_stated f =
      let g = and_true (formed T && formed C) (formed D) f in
      let h = and_true (formed T) (formed C) g.0 in
      let x = time_in_lem a Down (formed_states T h.0) in
      let y = time_in_lem b Up (formed_states C h.1) in
      let z = time_in_lem e Down (formed_states D g.1) in
      record { times = (x.typed, y.typed, z.typed); states = record { period = x.states; run = y.states; deadline = z.states } }

  task_formed : {x y z : Time} → StatesTask t c d x y z → times_formed ≡ true
  task_formed s = rw ((time_stated s.period).is, (time_stated s.run).is, (time_stated s.deadline).is)

  pub task_calls : (k p : ℕ) → Refuses task_check k p → TaskCalls k p
  unfolding times_fault
  task_calls k p =
      let order = unless (times_in_order (value T) (value C) (value D)) BadTimes n in
      let range = unless (times_in_range (value T) (value C) (value D)) OutOfRange n in
      from_two (unless times_formed BadField n) (unless (ltb past.tasks max_tasks) TooManyTasks n then range then order) k p
      (from_rule TaskCalls times_formed BadField n k p (λ x. (TaskLineCalls.bad_field (λ T C D s. fails _ (λ (s : StatesTask t c d T C D). task_formed s) x s), refl)))
      (λ f.
      let s = (task_stated (unless_fine _ BadField n f)).states in
      from_two (unless (ltb past.tasks max_tasks) TooManyTasks n) (range then order) k p
      (from_rule TaskCalls (ltb past.tasks max_tasks) TooManyTasks n k p (λ x. (TaskLineCalls.too_many s (omega (arith, fails _ (lt-ltb past.tasks max_tasks) x)), refl)))
      (λ g.
      let few = ltb-true past.tasks max_tasks (unless_fine _ TooManyTasks n g) in
      let in_range = times_range_is (value T) (value C) (value D) in
      from_two range order k p
      (from_rule TaskCalls _ OutOfRange n k p (λ x. (TaskLineCalls.out_of_range s few (fails _ in_range.1 x), refl)))
      (λ h. from_rule TaskCalls _ BadTimes n k p
      (λ x. (TaskLineCalls.bad_times s few (in_range.0 (unless_fine _ OutOfRange n h)) (fails _ (times_order_is (value T) (value C) (value D)).1 x), refl)))))

  pub task_given : {k : ℕ} → TaskLineCalls past t c d k → Refuses task_check k n
  unfolding times_fault
  task_given (TaskLineCalls.bad_field h) = by_first _ _ 3 n (is_rule times_formed BadField n (failing times_formed task_stated (λ s. h _ _ _ s.states)))
  task_given (TaskLineCalls.too_many s h) = rw (task_formed s) (by_first _ _ 8 n (is_rule _ TooManyTasks n (le-ltb past.tasks max_tasks h)))
  task_given (TaskLineCalls.out_of_range {T = x} {C = y} {D = z} s few h) =
      rw ((time_stated s.period).is, (time_stated s.run).is, (time_stated s.deadline).is, lt-ltb past.tasks max_tasks few)
      (by_first _ _ 4 n (is_rule _ OutOfRange n (failing _ (times_range_is x.held y.held z.held).0 h)))
  task_given (TaskLineCalls.bad_times {T = x} {C = y} {D = z} s few r h) =
      rw ((time_stated s.period).is, (time_stated s.run).is, (time_stated s.deadline).is, lt-ltb past.tasks max_tasks few, (times_range_is x.held y.held z.held).1 r)
      (is_rule _ BadTimes n (failing _ (times_order_is x.held y.held z.held).0 h))
