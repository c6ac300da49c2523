-- A line of words, at its place and with figures that obey the rules, says them: the other way round from `line_is`.
-- Assumes nothing.
use Prim.Native.Nat.{ℕ, ◌+◌, ◌≤◌, ◌<◌}
use mathlib.Core.Path.{◌≡◌, refl}
use mathlib.Core.Bool.{true, false, and-false}
use mathlib.Core.List.{List, [], ◌∷◌}
use native.Mathlib.Omega.{arith}
use borrow.Author.Tests.{eq-eqb, lt-ltb, le-leb}
use Rattle.basics.specs.Text.{bytes}
use Rattle.basics.proofs.ChoiceLaws.{within_in}
use Rattle.table.specs.declared.Pair.{Pair}
use Rattle.table.specs.declared.Resource.{Resource}
use Rattle.table.specs.Limits.{max_cpus, max_tasks, max_resources, max_group, max_alpha}
use Rattle.table.proofs.RuleLaws.{times_fine, used_range, used_totals}
use Rattle.table.proofs.Acceptance.{alpha_fine}
use Rattle.table.specs.Rules.{may_follow}
use Rattle.table.specs.Accepted.{GoodTimes, GoodPair}
use Rattle.field.specs.Spelling.{Time, StatesCount}
use Rattle.std.specs.Prelude.{Option, Ok}
use Rattle.field.specs.declared.Field.{Field}
use Rattle.line.specs.declared.Past.{Past}
use Rattle.line.specs.declared.Said.TheVariants.{Cpus, Group, Task as TaskLine, Alpha, Use}
use Rattle.line.specs.Fields.{form}
use Rattle.line.specs.Line.{cpus_line, group_line, task_line, alpha_line, use_line, line_says}
use Rattle.line.specs.Stated.{IsLine, StatesGroup, StatesTask, UseFigures, StatesUse, held_pair}
use Rattle.line.proofs.LineForm.{line_fields, line_form, form_other}
use Rattle.line.proofs.StatedLaws.{cpus_word, group_word, task_word, alpha_word, use_word, count_stated, time_stated}
use Rattle.line.proofs.LineRules.{CpusRules, GroupRules, TaskRules, AlphaRules, UseRules}

cpus_said : {f : Option Field} {M : ℕ} (n : ℕ) → CpusRules f M → cpus_line n f ≡ Ok (Cpus M)
unfolding cpus_line
cpus_said {M = M} n r = rw (r.field.is, within_in 1 max_cpus M r.least r.most)

group_said : {past : Past} {f g : Option Field} {G : ℕ} {K : Resource} (n : ℕ) → GroupRules past f g G K → group_line past n f g ≡ Ok (Group G K)
unfolding group_line
group_said {past} {G = G} {K} n r =
    rw (r.group.is, r.resource.is, within_in 1 max_group G r.group_least r.group_most, within_in 1 max_resources K.0 r.least r.most, lt-ltb past.group.0 K.0 r.rising)

task_said : {past : Past} {f g h : Option Field} {T C D : ℕ} (n : ℕ) → TaskRules past f g h T C D → task_line past n f g h ≡ Ok (TaskLine T C D)
unfolding task_line
task_said {past} {T = T} {C} {D} n r =
    rw (r.period.is, r.run.is, r.deadline.is, lt-ltb past.tasks max_tasks r.room, times_fine n T C D r.times)

alpha_said : {past : Past} {f : Option Field} {A : ℕ} (n : ℕ) → AlphaRules past f A → alpha_line past n f ≡ Ok (Alpha A)
unfolding alpha_line
alpha_said {past} {A = A} n r = rw (r.field.is, le-leb 1 A r.least, alpha_fine n past.alpha A r.most r.follows)

use_said : {past : Past} {f g h i : Option Field} {K : Resource} {p : Pair} (n : ℕ) → UseRules past f g h i K p → use_line past n f g h i ≡ Ok (Use K p)
unfolding use_line
use_said {past} {K = K} {p} n r =
    rw (
      r.resource.is,
      r.requests.is,
      r.longest.is,
      r.total.is,
      within_in 1 max_resources K.0 r.least r.most,
      used_range p r.good,
      lt-ltb past.last.0 K.0 r.rising,
      used_totals p (past.sum + p.total) past.run r.good r.fits,
    )

module _ (past : Past) (n : ℕ) (s : List ℕ) where
  pub says_cpus : {m : List ℕ} {M : ℕ} → IsLine "cpus" (m ∷ []) s → n ≡ 1 → StatesCount m M → 1 ≤ M → M ≤ max_cpus → line_says past n s ≡ Ok (Cpus M)
  unfolding line_says
  says_cpus {M = M} l e m a b =
      let f : form (bytes "cpus") 2 s ≡ true = line_form cpus_word l in
      rw (f, e, (line_fields cpus_word l).1) (cpus_said 1 (record { field = count_stated m; least = a; most = b }))

  pub says_group : {g k : List ℕ} {G K : ℕ} → IsLine "group" (g ∷ k ∷ []) s → 1 < n → past.tasks ≡ 0 → StatesGroup g k G K → 1 ≤ G → G ≤ max_group
      → past.group.0 < K → K ≤ max_resources → line_says past n s ≡ Ok (Group G (record { 0 = K }))
  unfolding line_says
  says_group l h e x a b rising most =
      let f : form (bytes "group") 3 s ≡ true = line_form group_word l in
      rw (form_other (bytes "group") (bytes "cpus") 3 2 s f refl, f, lt-ltb 1 n h, eq-eqb past.tasks 0 e, (line_fields group_word l).1)
      (group_said n
      (record {
        group = count_stated x.group;
        resource = count_stated x.resource;
        group_least = a;
        group_most = b;
        least = omega arith;
        most = most;
        rising = rising;
      }))

  pub says_task : {t c d : List ℕ} {T C D : Time} → IsLine "task" (t ∷ c ∷ d ∷ []) s → 1 < n → StatesTask t c d T C D → past.tasks < max_tasks
      → GoodTimes T.held C.held D.held → line_says past n s ≡ Ok (TaskLine T.held C.held D.held)
  unfolding line_says
  says_task l h x room g =
      let f : form (bytes "task") 4 s ≡ true = line_form task_word l in
      rw (form_other (bytes "task") (bytes "cpus") 4 2 s f refl, form_other (bytes "task") (bytes "group") 4 3 s f refl, f, lt-ltb 1 n h, (line_fields task_word l).1)
      (task_said n (record { period = time_stated x.period; run = time_stated x.run; deadline = time_stated x.deadline; room = room; times = g }))

  pub says_alpha : {a : List ℕ} {A : ℕ} → IsLine "alpha" (a ∷ []) s → past.fresh ≡ true → StatesCount a A → 1 ≤ A → A ≤ max_alpha → may_follow past.alpha A ≡ true
      → line_says past n s ≡ Ok (Alpha A)
  unfolding line_says
  says_alpha l e m a b c =
      let f : form (bytes "alpha") 2 s ≡ true = line_form alpha_word l in
      let o = line_fields alpha_word l in
      let g : form (bytes "cpus") 2 s ≡ false = rw (o.0, and-false) in
      rw (g, form_other (bytes "alpha") (bytes "group") 2 3 s f refl, form_other (bytes "alpha") (bytes "task") 2 4 s f refl, f, e, o.1)
      (alpha_said n (record { field = count_stated m; least = a; most = b; follows = c }))

  pub says_use : {k r c ct : List ℕ} {u : UseFigures} → IsLine "use" (k ∷ r ∷ c ∷ ct ∷ []) s → 0 < past.tasks → StatesUse k r c ct u → u.K ≤ max_resources
      → past.last.0 < u.K → GoodPair (held_pair u) → past.sum + u.CT.held ≤ past.run → line_says past n s ≡ Ok (Use (record { 0 = u.K }) (held_pair u))
  unfolding line_says
  says_use l h x most rising g fits =
      let f : form (bytes "use") 5 s ≡ true = line_form use_word l in
      rw (form_other (bytes "use") (bytes "cpus") 5 2 s f refl, form_other (bytes "use") (bytes "group") 5 3 s f refl, form_other (bytes "use") (bytes "task") 5 4 s f refl, form_other (bytes "use") (bytes "alpha") 5 2 s f refl, f, lt-ltb 0 past.tasks h, (line_fields use_word l).1)
      (use_said n
      (record {
        resource = count_stated x.resource;
        requests = count_stated x.requests;
        longest = time_stated x.longest;
        total = time_stated x.total;
        least = omega arith;
        most = most;
        rising = rising;
        good = g;
        fits = fits;
      }))
