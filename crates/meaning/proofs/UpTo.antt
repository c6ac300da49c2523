-- How far a listing states figures, and what is read of it up to there.
-- Assumes nothing.
use Prim.Native.Nat.{ℕ, ◌+◌}
use mathlib.Core.Path.{◌≡◌, refl, ap, ◌∙◌}
use mathlib.Core.Bool.{true}
use mathlib.Core.List.{List, [], ◌∷◌, ◌++◌, append_assoc}
use native.Mathlib.Omega.{arith}
use native.Mathlib.Nat.{zero-add}
use lib.ListN.{length}
use Rattle.basics.specs.Text.{bytes, line_of}
use Rattle.table.specs.declared.Resource.{Resource}
use Rattle.table.specs.declared.Table.{Table}
use Rattle.table.specs.declared.Refusal.{Refusal}
use Rattle.std.specs.Prelude.{Result, Err}
use Rattle.table.specs.Empty.{empty_table}
use Rattle.line.specs.declared.Past.{Past}
use Rattle.line.specs.declared.Said.{Said}
use Rattle.line.specs.declared.Said.TheVariants.{Cpus}
use Rattle.line.specs.Fields.{others, form}
use Rattle.line.specs.Line.{count_in, line_says}
use Rattle.line.specs.Stated.{Without, none, more, UseFigures}
use Rattle.line.proofs.WordLaws.{fields_from, form_line}
use Rattle.line.proofs.StatedLaws.{others_alone, count_in_lem, count_field_lem, cpus_word}
use Rattle.line.proofs.LineRules.{CpusRules, Line, is_cpus, is_group, is_task, is_alpha, is_use, is_not}
use Rattle.line.proofs.Says.{line_is}
use Rattle.listing.specs.Lines.{ends_in_LF}
use Rattle.listing.specs.Read.{no_lines, after_group, past_after, table_after, read_end, read_lines}
use Rattle.meaning.specs.Figures.{no_alpha, Figures, StatesUses, StatesFigures, by_cpus_line, GoodUses, GoodSoFar, table_of}
use Rattle.meaning.specs.Refusals.{last_group, left_by, line_count, next_line}
use Rattle.meaning.proofs.SplitLaws.{Start, Lines, no_line, a_line, lines_of, no_lines_lem, line_split, word_text_lem}
use Rattle.meaning.proofs.SaysLaws.{says_cpus}
use Rattle.meaning.proofs.TableLaws.{stored}
use Rattle.meaning.proofs.StatesRead.{read_text, line_read, past_tasks, past_groups, groups_left, groups_read, tasks_read, past_after_lem, past_all}
use Rattle.meaning.proofs.ReadStates.{Stops, at_end, at_line, Stating, no_own}
use Rattle.meaning.proofs.HeadStates.{Head, heads_to}

-- ---- how far a listing states figures

-- `cpus M`, groups and tasks, and what is left where the reading stops; or it stops at once
pub data StatesUpTo (s : List ℕ) : Type 0 where
  stops_first : Stops no_lines 1 s → StatesUpTo s
  stops_later : (before left : List ℕ) (f : Figures) → s ≡ before ++ left → StatesFigures before f → GoodSoFar f
      → Stops (left_by f) (next_line f) left → StatesUpTo s

-- a task without run time has no use
no_uses : {C last sum : ℕ} {s : List ℕ} {us : List UseFigures} → StatesUses s us → GoodUses C last sum us → C ≡ 0 → (s ≡ []) × (us ≡ [])
no_uses StatesUses.no_use GoodUses.no_use e = (refl, refl)
no_uses (StatesUses.by_use_line a r) (GoodUses.one_use x y g z q) e = absurd (omega (arith, g.longest_least, g.longest_total))

cpus_states : {s l : List ℕ} (a : Start s l) (M : ℕ) → form (bytes "cpus") 2 l ≡ true → CpusRules (count_in l 1) M
    → Head no_lines 2 a.rest → StatesUpTo s
cpus_states {l = l} a M f r h =
    let K : Resource = record { 0 = last_group 0 h.groups } in
    let m : Stating (after_group no_lines K) (2 + length h.groups) h.rest no_alpha = rw (groups_left 0 h.groups) at h.stating in
    let n = no_uses m.states_uses m.good_uses refl in
    let line = line_of "cpus" (fields_from 1 0 (others l)) in
    let g : Figures = record { M = M; groups = h.groups; tasks = m.tasks } in
    let e : 2 + length h.groups + line_count m.tasks ≡ next_line g = omega arith in
    let stops : Stops (past_tasks (after_group no_lines K) m.tasks) (2 + length h.groups + line_count m.tasks) m.left =
    rw (n.1, zero-add (line_count m.tasks)) at m.stops in
    stops_later (line ++ (h.first ++ m.second)) m.left g
    (a.text ∙ word_text_lem a.rest (form_line "cpus" 1 l a.clean f)
    ∙ rw (h.text, no_own m, n.0, append_assoc line (h.first ++ m.second) m.left, append_assoc h.first m.second m.left))
    (by_cpus_line (count_in_lem (others_alone l 0) r.field) h.states m.states_tasks)
    (record { cpus_least = r.least; cpus_most = r.most; groups = h.good; tasks_most = omega (arith, m.few); tasks = m.good_tasks })
    (rw (past_after_lem K m.tasks, e) at stops)

pub states_up_to : (s : List ℕ) → StatesUpTo s
unfolding past_after
states_up_to s = go (lines_of s)
  where
    line : {l : List ℕ} (a : Start s l) → Lines a.rest → (x : Result Said Refusal) → line_says no_lines 1 l ≡ x → Line no_lines 1 l x → StatesUpTo s
    line a rest _ d (is_cpus {M} f e r) = cpus_states a M f r (heads_to rest no_lines 2 (omega arith) refl refl)
    line a rest _ d (is_group f h e r) = absurd (omega arith)
    line a rest _ d (is_task f e r) = absurd (omega arith)
    line a rest _ d (is_alpha f e r) = absurd cc
    line a rest _ d (is_use f e r) = absurd (omega arith)
    line a rest _ d (is_not r) = stops_first (at_line a d)

    go : Lines s → StatesUpTo s
    go (no_line w) = stops_first (at_end w)
    go (a_line {l} a rest) = line a rest (line_says no_lines 1 l) refl (line_is no_lines 1 l)

-- ---- what is read of it

-- after lines that state figures the reading goes on with what is left
pub figures_read : {s : List ℕ} {f : Figures} (left : List ℕ) → StatesFigures s f → GoodSoFar f
    → read_text empty_table no_lines 1 (s ++ left) ≡ read_text (table_of f) (left_by f) (next_line f) left
unfolding past_after table_after empty_table
figures_read left (by_cpus_line {m} {groups} {rest} {f} a h r) g =
    let line = line_of "cpus" (m ∷ []) in
    let past = past_groups no_lines f.groups in
    let e : past ≡ after_group no_lines (record { 0 = last_group 0 f.groups }) = groups_left 0 f.groups in
    let z : past.tasks ≡ 0 = rw e in
    let y : past.alpha ≡ 0 = rw e in
    let n : 2 + length f.groups + line_count f.tasks ≡ next_line f = omega arith in
    ap (read_text empty_table no_lines 1) (append_assoc line (groups ++ rest) left ∙ ap (λ (y : List ℕ). line ++ y) (append_assoc groups rest left))
    ∙ line_read "cpus" (groups ++ (rest ++ left)) empty_table no_lines 1 (Cpus f.M) cpus_word (more (count_field_lem a) none) (λ l w. says_cpus no_lines 1 l w refl a g.cpus_least g.cpus_most)
    ∙ groups_read (rest ++ left) _ no_lines 2 h g.groups (omega arith) refl
    ∙ tasks_read left _ past (2 + length f.groups) r (rw y g.tasks) (omega arith) (omega (arith, g.tasks_most))
    ∙ rw (past_all f, z, n, stored f.M g.groups g.tasks g.tasks_most)

-- where it stops: at a line that is refused, and at the end
pub stop_line : (t : Table) (past : Past) (n : ℕ) {s l : List ℕ} {r : Refusal} (a : Start s l) → line_says past n l ≡ Err r → read_text t past n s ≡ Err r
unfolding read_lines
stop_line t past n a e = rw (a.text, line_split a.rest a.clean, e)

pub stop_end : (t : Table) (past : Past) (n : ℕ) {s : List ℕ} → Without 10 s → read_text t past n s ≡ read_end t past n (ends_in_LF true s)
unfolding read_lines
stop_end t past n w = rw (no_lines_lem w)
