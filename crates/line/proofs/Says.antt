-- What a line is that says something.
-- Assumes nothing.
use Prim.Native.Nat.{ℕ, ◌+◌}
use mathlib.Core.Path.{◌≡◌, refl}
use mathlib.Core.Bool.{Bool, true, false, ◌&&◌}
use mathlib.Core.List.{List}
use borrow.Author.Tests.{eqb-true, ltb-true, leb-true}
use lib.Dec.{ltb, leb, eqb}
use Rattle.basics.specs.Choice.{pick, within}
use Rattle.basics.specs.Text.{bytes}
use Rattle.basics.proofs.ChoiceLaws.{and_true, within_true}
use Rattle.table.specs.declared.Pair.{Pair}
use Rattle.table.specs.declared.Refusal.{Refusal}
use Rattle.table.specs.declared.Resource.{Resource}
use Rattle.table.specs.declared.Fault.TheVariants.{BadField, OutOfRange, NotRising, BadTotals, TooManyTasks, GroupNotRising}
use Rattle.table.specs.Faults.{Checked}
use Rattle.std.specs.Prelude.{Option, Result, Ok, Err}
use Rattle.table.specs.Limits.{max_cpus, max_tasks, max_resources, max_group}
use Rattle.table.specs.Faults.{◌then◌, unless}
use Rattle.table.specs.Rules.{times_fault, alpha_fault, used_in_range, totals_fit}
use Rattle.table.proofs.FirstLaws.{then_fine}
use Rattle.table.proofs.RuleLaws.{unless_fine, times_good, used_good}
use Rattle.table.proofs.Acceptance.{alpha_good}
use Rattle.field.specs.declared.Field.{Field}
use Rattle.line.specs.declared.Past.{Past}
use Rattle.line.specs.declared.Said.{Said}
use Rattle.line.specs.declared.Said.TheVariants.{Cpus, Group, Task as TaskLine, Alpha, Use}
use Rattle.line.specs.Fields.{form}
use Rattle.line.specs.Line.{formed, value, ◌gives◌, cpus_line, group_line, task_line, alpha_line, use_line, line_says}
use Rattle.line.proofs.StatedLaws.{formed_states}
use Rattle.line.proofs.LineRules.{CpusRules, GroupRules, TaskRules, AlphaRules, UseRules, Line, is_cpus, is_group, is_task, is_alpha, is_use, is_not}

-- ---- from what is said to the rules

-- a check that is followed by what the line says
given : (x : Checked) (y : Said) (P : Result Said Refusal → Type 0) → (x ≡ Ok tt → P (Ok y)) → ((r : Refusal) → P (Err r)) → P (x gives y)
given (Ok _) y P f g = f refl
given (Err r) y P f g = g r

cpus_rules : (n : ℕ) (f : Option Field) (P : Result Said Refusal → Type 0) → (CpusRules f (value f) → P (Ok (Cpus (value f)))) → ((r : Refusal) → P (Err r)) → P (cpus_line n f)
unfolding cpus_line
cpus_rules n f P holds fails = given _ _ P go fails
  where
    go : (unless (formed f) BadField n then unless (within 1 max_cpus (value f)) OutOfRange n) ≡ Ok tt → P (Ok (Cpus (value f)))
    go e =
        let a = then_fine (unless (formed f) BadField n) _ e in
        let w = within_true 1 max_cpus (value f) (unless_fine _ OutOfRange n a.1) in
        holds (record { field = formed_states f (unless_fine _ BadField n a.0); least = w.0; most = w.1 })

group_rules : (past : Past) (n : ℕ) (f g : Option Field) (P : Result Said Refusal → Type 0)
    → let K : Resource = record { 0 = value g } in
    (GroupRules past f g (value f) K → P (Ok (Group (value f) K))) → ((r : Refusal) → P (Err r)) → P (group_line past n f g)
unfolding group_line
group_rules past n f g P holds fails = given _ _ P go fails
  where
    go : (unless (formed f && formed g) BadField n then
        unless (within 1 max_group (value f) && within 1 max_resources (value g)) OutOfRange n then
        unless (ltb past.group.0 (value g)) GroupNotRising n) ≡ Ok tt → P (Ok (Group (value f) (record { 0 = value g })))
    go e =
        let a = then_fine (unless (formed f && formed g) BadField n) _ e in
        let b = then_fine (unless (within 1 max_group (value f) && within 1 max_resources (value g)) OutOfRange n) _ a.1 in
        let c = and_true (formed f) (formed g) (unless_fine _ BadField n a.0) in
        let r = and_true (within 1 max_group (value f)) (within 1 max_resources (value g)) (unless_fine _ OutOfRange n b.0) in
        let i = within_true 1 max_group (value f) r.0 in
        let k = within_true 1 max_resources (value g) r.1 in
        holds
        (record {
          group = formed_states f c.0;
          resource = formed_states g c.1;
          group_least = i.0;
          group_most = i.1;
          least = k.0;
          most = k.1;
          rising = ltb-true _ _ (unless_fine _ GroupNotRising n b.1);
        })

task_rules : (past : Past) (n : ℕ) (f g h : Option Field) (P : Result Said Refusal → Type 0)
    → (TaskRules past f g h (value f) (value g) (value h) → P (Ok (TaskLine (value f) (value g) (value h)))) → ((r : Refusal) → P (Err r))
    → P (task_line past n f g h)
unfolding task_line
task_rules past n f g h P holds fails = given _ _ P go fails
  where
    go : (unless (formed f && formed g && formed h) BadField n then unless (ltb past.tasks max_tasks) TooManyTasks n then times_fault n (value f) (value g) (value h)) ≡ Ok tt
        → P (Ok (TaskLine (value f) (value g) (value h)))
    go e =
        let a = then_fine (unless (formed f && formed g && formed h) BadField n) _ e in
        let b = then_fine (unless (ltb past.tasks max_tasks) TooManyTasks n) _ a.1 in
        let d = and_true (formed f && formed g) (formed h) (unless_fine _ BadField n a.0) in
        let c = and_true (formed f) (formed g) d.0 in
        holds
        (record {
          period = formed_states f c.0;
          run = formed_states g c.1;
          deadline = formed_states h d.1;
          room = ltb-true _ _ (unless_fine _ TooManyTasks n b.0);
          times = times_good n _ _ _ b.1;
        })

alpha_rules : (past : Past) (n : ℕ) (f : Option Field) (P : Result Said Refusal → Type 0) → (AlphaRules past f (value f) → P (Ok (Alpha (value f)))) → ((r : Refusal) → P (Err r)) → P (alpha_line past n f)
unfolding alpha_line
alpha_rules past n f P holds fails = given _ _ P go fails
  where
    go : (unless (formed f) BadField n then unless (leb 1 (value f)) OutOfRange n then alpha_fault n past.alpha (value f)) ≡ Ok tt → P (Ok (Alpha (value f)))
    go e =
        let a = then_fine (unless (formed f) BadField n) _ e in
        let b = then_fine (unless (leb 1 (value f)) OutOfRange n) _ a.1 in
        let g = alpha_good n past.alpha (value f) b.1 in
        holds
        (record {
          field = formed_states f (unless_fine _ BadField n a.0);
          least = leb-true _ _ (unless_fine _ OutOfRange n b.0);
          most = g.0;
          follows = g.1;
        })

use_rules : (past : Past) (n : ℕ) (f g h i : Option Field) (P : Result Said Refusal → Type 0)
    → let p : Pair = record { requests = value g; longest = value h; total = value i } in
    let K : Resource = record { 0 = value f } in
    (UseRules past f g h i K p → P (Ok (Use K p))) → ((r : Refusal) → P (Err r)) → P (use_line past n f g h i)
unfolding use_line
use_rules past n f g h i P holds fails = given _ _ P go fails
  where
    p : Pair
    p = record { requests = value g; longest = value h; total = value i }

    go : (unless (formed f && formed g && formed h && formed i) BadField n then
        unless (within 1 max_resources (value f) && used_in_range p) OutOfRange n then
        unless (ltb past.last.0 (value f)) NotRising n then
        unless (totals_fit p (past.sum + value i) past.run) BadTotals n) ≡ Ok tt → P (Ok (Use (record { 0 = value f }) p))
    go e =
        let a = then_fine (unless (formed f && formed g && formed h && formed i) BadField n) _ e in
        let b = then_fine (unless (within 1 max_resources (value f) && used_in_range p) OutOfRange n) _ a.1 in
        let c = then_fine (unless (ltb past.last.0 (value f)) NotRising n) _ b.1 in
        let fi = and_true (formed f && formed g && formed h) (formed i) (unless_fine _ BadField n a.0) in
        let fh = and_true (formed f && formed g) (formed h) fi.0 in
        let fg = and_true (formed f) (formed g) fh.0 in
        let r = and_true (within 1 max_resources (value f)) (used_in_range p) (unless_fine _ OutOfRange n b.0) in
        let k = within_true 1 max_resources (value f) r.0 in
        let u = used_good p (past.sum + value i) past.run r.1 (unless_fine _ BadTotals n c.1) in
        holds
        (record {
          resource = formed_states f fg.0;
          requests = formed_states g fg.1;
          longest = formed_states h fh.1;
          total = formed_states i fi.1;
          least = k.0;
          most = k.1;
          rising = ltb-true _ _ (unless_fine _ NotRising n c.0);
          good = u.0;
          fits = u.1;
        })

-- a choice of what a line says, by a form and a place
chosen : (a b : Bool) (x y : Result Said Refusal) (P : Result Said Refusal → Type 0) → (a ≡ true → b ≡ true → P x) → P y → P (pick (a && b) x y)
chosen true true x y P f q = f refl refl
chosen true false x y P f q = q
chosen false b x y P f q = q

pub line_is : (past : Past) (n : ℕ) (s : List ℕ) → Line past n s (line_says past n s)
unfolding line_says
line_is past n s =
    chosen (form (bytes "cpus") 2 s) (eqb n 1) _ _ (Line past n s) (λ f e. cpus_rules n _ (Line past n s) (is_cpus f (eqb-true n 1 e)) is_not)
    (chosen (form (bytes "group") 3 s) (ltb 1 n && eqb past.tasks 0) _ _ (Line past n s)
    (λ f e. let h = and_true (ltb 1 n) (eqb past.tasks 0) e in group_rules past n _ _ (Line past n s) (is_group f (ltb-true 1 n h.0) (eqb-true past.tasks 0 h.1)) is_not)
    (chosen (form (bytes "task") 4 s) (ltb 1 n) _ _ (Line past n s) (λ f e. task_rules past n _ _ _ (Line past n s) (is_task f (ltb-true 1 n e)) is_not)
    (chosen (form (bytes "alpha") 2 s) past.fresh _ _ (Line past n s) (λ f e. alpha_rules past n _ (Line past n s) (is_alpha f e) is_not)
    (chosen (form (bytes "use") 5 s) (ltb 0 past.tasks) _ _ (Line past n s) (λ f e. use_rules past n _ _ _ _ (Line past n s) (is_use f (ltb-true 0 _ e)) is_not) (is_not _)))))
