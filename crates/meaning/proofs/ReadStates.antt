-- How far lines after a task's state figures: of every text a first part does, after what the lines before it left, and the reading stops behind it.
-- Assumes nothing.
use Prim.Native.Nat.{ℕ, ◌+◌, ◌≤◌, ◌<◌}
use mathlib.Core.Path.{◌≡◌, refl, ap, ◌∙◌}
use mathlib.Core.Bool.{true, false}
use mathlib.Core.List.{List, [], ◌∷◌, ◌++◌, append_assoc}
use native.Mathlib.Omega.{arith}
use native.Mathlib.Nat.{add-zero}
use lib.ListN.{length}
use Rattle.basics.specs.Text.{bytes, line_of}
use Rattle.table.specs.declared.Pair.{Pair}
use Rattle.table.specs.declared.Resource.{Resource}
use Rattle.table.specs.declared.Refusal.{Refusal}
use Rattle.std.specs.Prelude.{Result, Err}
use Rattle.table.specs.Limits.{max_tasks}
use Rattle.table.proofs.RuleFacts.{may_follow_is}
use Rattle.field.specs.declared.Rounding.TheVariants.{Down, Up}
use Rattle.line.specs.declared.Past.{Past}
use Rattle.line.specs.declared.Said.{Said}
use Rattle.line.specs.declared.Said.TheVariants.{Alpha, Use}
use Rattle.line.specs.Fields.{others, form}
use Rattle.line.specs.Line.{count_in, time_in, line_says}
use Rattle.line.specs.Stated.{Without, UseFigures}
use Rattle.line.proofs.WordLaws.{fields_from, form_line}
use Rattle.line.proofs.StatedLaws.{others_alone, time_of, count_in_lem, time_in_lem}
use Rattle.line.proofs.LineRules.{TaskRules, AlphaRules, UseRules, Line, is_cpus, is_group, is_task, is_alpha, is_use, is_not}
use Rattle.line.proofs.Says.{line_is}
use Rattle.listing.specs.Read.{after_task, past_after}
use Rattle.meaning.specs.Figures.{AlphaFigure, no_alpha, alpha_of, TaskFigures, StatesAlpha, no_alpha_line, by_alpha_line, StatesUses, by_use_line, StatesTasks, by_task_line, GoodUses, GoodAlpha, last_with, GoodTasks, alpha_lines}
use Rattle.meaning.specs.Refusals.{line_count}
use Rattle.meaning.proofs.SplitLaws.{Start, Lines, no_line, a_line, word_text_lem}
use Rattle.meaning.proofs.StatesRead.{past_alpha, past_uses, past_tasks, task_left}

-- where the reading stops: no line that ends is left, or the next one is refused
pub data Stops (past : Past) (n : ℕ) (s : List ℕ) : Type 0 where
  at_end : Without 10 s → Stops past n s
  at_line : {l : List ℕ} {r : Refusal} → Start s l → line_says past n l ≡ Err r → Stops past n s

-- the text s, from line n on: the alpha and the uses of the last task, tasks, and what is left where the reading stops
pub record Stating (past : Past) (n : ℕ) (s : List ℕ) (alpha : AlphaFigure) : Type 0 where
  pub uses : List UseFigures
  pub tasks : List TaskFigures
  pub own : List ℕ
  pub first : List ℕ
  pub second : List ℕ
  pub left : List ℕ
  pub text : s ≡ own ++ (first ++ (second ++ left))
  pub states_alpha : StatesAlpha own alpha
  pub states_uses : StatesUses first uses
  pub states_tasks : StatesTasks second tasks
  pub good_alpha : GoodAlpha past.alpha alpha
  pub good_uses : GoodUses past.run past.last.0 past.sum uses
  pub good_tasks : GoodTasks (last_with past.alpha alpha) tasks
  pub few : past.tasks + length tasks ≤ max_tasks
  pub stops : Stops (past_tasks (past_uses (past_alpha past alpha) uses) tasks) (n + (alpha_lines alpha + length uses + line_count tasks)) left

-- with whichever alpha it is; where the last task is not fresh there is none
pub record StatingAny (past : Past) (n : ℕ) (s : List ℕ) : Type 0 where
  pub alpha : AlphaFigure
  pub stating : Stating past n s alpha
  pub none : past.fresh ≡ false → alpha ≡ no_alpha

abbrev any : {past : Past} {n : ℕ} {s : List ℕ} → Stating past n s no_alpha → StatingAny past n s
any x = record { alpha = no_alpha; stating = x; none = λ e. refl }

-- after a line that leaves no fresh task
without : {past : Past} {n : ℕ} {s : List ℕ} → past.fresh ≡ false → StatingAny past n s → Stating past n s no_alpha
without e x = let y = x.stating in rw (x.none e) at y

own_none : {s : List ℕ} → StatesAlpha s no_alpha → s ≡ []
own_none no_alpha_line = refl

pub no_own : {past : Past} {n : ℕ} {s : List ℕ} (x : Stating past n s no_alpha) → s ≡ x.first ++ (x.second ++ x.left)
no_own x = x.text ∙ rw (own_none x.states_alpha)

module _ (past : Past) (n : ℕ) {s : List ℕ} (m : past.tasks ≤ max_tasks) where
  -- nothing is stated, and it stops at once
  pub stating_none : Stops past n s → Stating past n s no_alpha
  stating_none x =
      record {
        uses = [];
        tasks = [];
        own = [];
        first = [];
        second = [];
        left = s;
        text = refl;
        states_alpha = no_alpha_line;
        states_uses = StatesUses.no_use;
        states_tasks = StatesTasks.no_tasks;
        good_alpha = GoodAlpha.not_given;
        good_uses = GoodUses.no_use;
        good_tasks = GoodTasks.no_tasks;
        few = omega arith;
        stops = rw (add-zero n) x;
      }

  pub task_states : {l : List ℕ} {T C D : ℕ} (a : Start s l) → form (bytes "task") 4 l ≡ true
      → TaskRules past (time_in Down l 1) (time_in Up l 2) (time_in Down l 3) T C D → StatingAny (after_task past C) (n + 1) a.rest → Stating past n s no_alpha
  task_states {l} {T = T} {C} {D} a f r z =
      let x = z.stating in
      let line = line_of "task" (fields_from 3 0 (others l)) in
      let period = time_in_lem (others_alone l 0) Down r.period in
      let run = time_in_lem (others_alone l 1) Up r.run in
      let deadline = time_in_lem (others_alone l 2) Down r.deadline in
      let y : TaskFigures = record { T = time_of period T; C = time_of run C; D = time_of deadline D; alpha = z.alpha; uses = x.uses } in
      let e : n + 1 + (alpha_lines z.alpha + length x.uses + line_count x.tasks) ≡ n + (0 + 0 + line_count (y ∷ x.tasks)) = omega arith in
      record {
        uses = [];
        tasks = y ∷ x.tasks;
        own = [];
        first = [];
        second = line ++ (x.own ++ (x.first ++ x.second));
        left = x.left;
        text =
            a.text ∙ word_text_lem a.rest (form_line "task" 3 l a.clean f)
            ∙ rw (x.text, append_assoc line (x.own ++ (x.first ++ x.second)) x.left, append_assoc x.own (x.first ++ x.second) x.left, append_assoc x.first x.second x.left);
        states_alpha = no_alpha_line;
        states_uses = StatesUses.no_use;
        states_tasks =
            by_task_line {x = y} (record { period = period.states; run = run.states; deadline = deadline.states }) x.states_alpha x.states_uses x.states_tasks;
        good_alpha = GoodAlpha.not_given;
        good_uses = GoodUses.no_use;
        good_tasks = GoodTasks.one_task (record { times = r.times; uses = x.good_uses }) x.good_alpha x.good_tasks;
        few = omega (arith, x.few);
        stops = let q = x.stops in rw (← e) (rw (task_left past y) at q);
      }

  alpha_states : {l : List ℕ} {A : ℕ} (a : Start s l) → form (bytes "alpha") 2 l ≡ true
      → AlphaRules past (count_in l 1) A → Stating (past_after past (Alpha A)) (n + 1) a.rest no_alpha → Stating past n s (alpha_of A)
  unfolding past_after
  alpha_states {l} {A = A} a f r x =
      let line = line_of "alpha" (fields_from 1 0 (others l)) in
      let e : n + 1 + (0 + length x.uses + line_count x.tasks) ≡ n + (1 + length x.uses + line_count x.tasks) = omega arith in
      record {
        uses = x.uses;
        tasks = x.tasks;
        own = line;
        first = x.first;
        second = x.second;
        left = x.left;
        text = a.text ∙ word_text_lem a.rest (form_line "alpha" 1 l a.clean f) ∙ ap (λ (y : List ℕ). line ++ y) (no_own x);
        states_alpha = by_alpha_line (count_in_lem (others_alone l 0) r.field);
        states_uses = x.states_uses;
        states_tasks = x.states_tasks;
        good_alpha = GoodAlpha.given r.least r.most ((may_follow_is past.alpha A).0 r.follows);
        good_uses = x.good_uses;
        good_tasks = x.good_tasks;
        few = x.few;
        stops = rw (← e) x.stops;
      }

  use_states : {l : List ℕ} {K : Resource} {p : Pair} (a : Start s l) → form (bytes "use") 5 l ≡ true
      → UseRules past (count_in l 1) (count_in l 2) (time_in Up l 3) (time_in Up l 4) K p
      → Stating (past_after past (Use K p)) (n + 1) a.rest no_alpha → Stating past n s no_alpha
  unfolding past_after
  use_states {l} {K = K} {p} a f r x =
      let line = line_of "use" (fields_from 4 0 (others l)) in
      let longest = time_in_lem (others_alone l 2) Up r.longest in
      let total = time_in_lem (others_alone l 3) Up r.total in
      let u : UseFigures = record { K = K.0; N = p.requests; c = time_of longest p.longest; CT = time_of total p.total } in
      let e : n + 1 + (0 + length x.uses + line_count x.tasks) ≡ n + (0 + length (u ∷ x.uses) + line_count x.tasks) = omega arith in
      record {
        uses = u ∷ x.uses;
        tasks = x.tasks;
        own = [];
        first = line ++ x.first;
        second = x.second;
        left = x.left;
        text = a.text ∙ word_text_lem a.rest (form_line "use" 4 l a.clean f) ∙ rw (no_own x, append_assoc line x.first (x.second ++ x.left));
        states_alpha = no_alpha_line;
        states_uses =
            by_use_line {u = u} (record { resource = count_in_lem (others_alone l 0) r.resource; requests = count_in_lem (others_alone l 1) r.requests; longest = longest.states; total = total.states })
            x.states_uses;
        states_tasks = x.states_tasks;
        good_alpha = GoodAlpha.not_given;
        good_uses = GoodUses.one_use {u = u} r.rising r.most r.good r.fits x.good_uses;
        good_tasks = x.good_tasks;
        few = x.few;
        stops = rw (← e) x.stops;
      }

-- after a task
pub states_to : {s : List ℕ} → Lines s → (past : Past) (n : ℕ) → 1 < n → 0 < past.tasks → past.tasks ≤ max_tasks → StatingAny past n s
unfolding past_after
states_to (no_line w) past n h some m = any (stating_none past n m (at_end w))
states_to {s} (a_line {l} a rest) past n h some m = go (line_says past n l) refl (line_is past n l) (λ past j k. states_to rest past (n + 1) (omega arith) j k)
  where
    go : (x : Result Said Refusal) → line_says past n l ≡ x → Line past n l x → ((past : Past) → 0 < past.tasks → past.tasks ≤ max_tasks → StatingAny past (n + 1) a.rest) → StatingAny past n s
    go _ d (is_cpus f e r) ih = absurd (omega arith)
    go _ d (is_group f h z r) ih = absurd (omega arith)
    go _ d (is_task {C = C} f e r) ih = any (task_states past n m a f r (ih (after_task past C) (omega arith) (omega (arith, r.room))))
    go _ d (is_alpha {A} f e r) ih =
        record {
          alpha = alpha_of A;
          stating = alpha_states past n m a f r (without refl (ih (past_after past (Alpha A)) some m));
          none = λ q. absurd cc;
        }
    go _ d (is_use {K} {p} f e r) ih = any (use_states past n m a f r (without refl (ih (past_after past (Use K p)) some m)))
    go _ d (is_not r) ih = any (stating_none past n m (at_line a d))
