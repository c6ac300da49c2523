-- How far the lines after `cpus` state figures: groups, and then tasks.
-- Assumes nothing.
use Prim.Native.Nat.{ℕ, ◌+◌, ◌≤◌, ◌<◌}
use mathlib.Core.Path.{◌≡◌, refl, ◌∙◌}
use mathlib.Core.Bool.{true, false}
use mathlib.Core.List.{List, [], ◌∷◌, ◌++◌, append_assoc}
use native.Mathlib.Omega.{arith}
use native.Mathlib.Nat.{add-zero}
use lib.ListN.{length}
use Rattle.basics.specs.Text.{bytes, line_of}
use Rattle.std.specs.Prelude.{Result}
use Rattle.table.specs.declared.Resource.{Resource}
use Rattle.table.specs.declared.Refusal.{Refusal}
use Rattle.table.specs.Limits.{max_tasks}
use Rattle.line.specs.declared.Past.{Past}
use Rattle.line.specs.declared.Said.{Said}
use Rattle.line.specs.declared.Said.TheVariants.{Group}
use Rattle.line.specs.Fields.{others, form}
use Rattle.line.specs.Line.{count_in, line_says}
use Rattle.line.proofs.WordLaws.{fields_from, form_line}
use Rattle.line.proofs.StatedLaws.{others_alone, count_in_lem}
use Rattle.line.proofs.LineRules.{GroupRules, Line, is_cpus, is_group, is_task, is_alpha, is_use, is_not}
use Rattle.line.proofs.Says.{line_is}
use Rattle.listing.specs.Read.{after_task, past_after}
use Rattle.meaning.specs.Figures.{no_alpha, GroupFigures, StatesGroups, by_group_line, GoodGroups}
use Rattle.meaning.proofs.SplitLaws.{Start, Lines, no_line, a_line, word_text_lem}
use Rattle.meaning.proofs.StatesRead.{past_groups}
use Rattle.meaning.proofs.ReadStates.{at_end, at_line, Stating, stating_none, task_states, states_to}

-- the text s, from line n on, before any task: groups, and then what follows them
pub record Head (past : Past) (n : ℕ) (s : List ℕ) : Type 0 where
  pub groups : List GroupFigures
  pub first : List ℕ
  pub rest : List ℕ
  pub text : s ≡ first ++ rest
  pub states : StatesGroups first groups
  pub good : GoodGroups past.group.0 groups
  pub stating : Stating (past_groups past groups) (n + length groups) rest no_alpha

module _ (past : Past) (n : ℕ) {s : List ℕ} where
  no_groups : Stating past n s no_alpha → Head past n s
  no_groups x = record { groups = []; first = []; rest = s; text = refl; states = StatesGroups.no_group; good = GoodGroups.no_group; stating = rw (add-zero n) x }

  group_states : {l : List ℕ} {G : ℕ} {K : Resource} (a : Start s l) → form (bytes "group") 3 l ≡ true
      → GroupRules past (count_in l 1) (count_in l 2) G K → Head (past_after past (Group G K)) (n + 1) a.rest → Head past n s
  unfolding past_after
  group_states {l} {G = G} {K} a f r x =
      let line = line_of "group" (fields_from 2 0 (others l)) in
      let y : GroupFigures = record { G = G; K = K.0 } in
      let e : n + 1 + length x.groups ≡ n + length (y ∷ x.groups) = omega arith in
      record {
        groups = y ∷ x.groups;
        first = line ++ x.first;
        rest = x.rest;
        text = a.text ∙ word_text_lem a.rest (form_line "group" 2 l a.clean f) ∙ rw (x.text, append_assoc line x.first x.rest);
        states = by_group_line {x = y} (record { group = count_in_lem (others_alone l 0) r.group; resource = count_in_lem (others_alone l 1) r.resource }) x.states;
        good = GoodGroups.one_group {x = y} r.group_least r.group_most r.rising r.most x.good;
        stating = rw (← e) x.stating;
      }

pub heads_to : {s : List ℕ} → Lines s → (past : Past) (n : ℕ) → 1 < n → past.tasks ≡ 0 → past.fresh ≡ false → Head past n s
unfolding past_after
heads_to (no_line w) past n h z f = no_groups past n (stating_none past n (omega arith) (at_end w))
heads_to {s} (a_line {l} a rest) past n h z f = go (line_says past n l) refl (line_is past n l) (λ past j k. heads_to rest past (n + 1) (omega arith) j k)
  where
    m : past.tasks ≤ max_tasks
    m = omega arith

    go : (x : Result Said Refusal) → line_says past n l ≡ x → Line past n l x → ((past : Past) → past.tasks ≡ 0 → past.fresh ≡ false → Head past (n + 1) a.rest) → Head past n s
    go _ d (is_cpus i e r) ih = absurd (omega arith)
    go _ d (is_group {G} {K} i e j r) ih = group_states past n a i r (ih (past_after past (Group G K)) z f)
    go _ d (is_task {C = C} i e r) ih =
        no_groups past n (task_states past n m a i r (states_to rest (after_task past C) (n + 1) (omega arith) (omega arith) (omega (arith, r.room))))
    go _ d (is_alpha i e r) ih = absurd cc
    go _ d (is_use i e r) ih = absurd (omega arith)
    go _ d (is_not r) ih = no_groups past n (stating_none past n m (at_line a d))
