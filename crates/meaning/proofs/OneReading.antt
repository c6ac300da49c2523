-- A listing states its figures in one way only (`Unambiguous`, specs/Meaning.antt).
-- Assumes nothing.
use Prim.Native.Nat.{ℕ}
use Prim.Native.String.{String}
use mathlib.Core.Path.{◌≡◌, refl, sym, ap, ◌∙◌}
use mathlib.Core.List.{List, [], ◌∷◌, ◌++◌, append_assoc}
use native.Mathlib.Omega.{arith}
use lib.ListN.{length, get_or, drop}
use lib.Seq.{drop-append_seam}
use Rattle.basics.specs.Text.{bytes, line_of}
use Rattle.field.proofs.OneNumber.{count_one, time_one}
use Rattle.line.specs.Fields.{others}
use Rattle.line.specs.Stated.{IsField, AreFields, none, more, UseFigures}
use Rattle.line.proofs.LineForm.{line_fields}
use Rattle.line.proofs.StatedLaws.{count_field_lem, cpus_word, group_word, task_word, alpha_word, use_word}
use Rattle.listing.specs.Lines.{lines}
use Rattle.meaning.specs.Figures.{AlphaFigure, alpha_of, TaskFigures, GroupFigures, Figures, StatesGroups, by_group_line, StatesAlpha, no_alpha_line, by_alpha_line, StatesUses, by_use_line, StatesTasks, by_task_line, StatesFigures, by_cpus_line}
use Rattle.meaning.specs.Meaning.{Unambiguous}
use Rattle.meaning.proofs.SplitLaws.{line_split, begun}
use Rattle.meaning.proofs.StatesRead.{group_fields, task_fields, use_fields}

-- ---- a text begins with one line, and that has one row of fields

-- the same, and the same text is left
record One {A : Type 0} (x y : A) (rest after : List ℕ) : Type 0 where
  same : x ≡ y
  left : rest ≡ after

one_line : (word : String) {ws vs : List (List ℕ)} {rest after : List ℕ} → IsField (bytes word) → AreFields ws → AreFields vs
    → line_of word ws ++ rest ≡ line_of word vs ++ after → One ws vs rest after
one_line word {ws} {vs} {rest} {after} a b c e =
    let r = begun word rest a b in
    let q = begun word after a c in
    let l = sym (line_split rest r.clean) ∙ ap lines (sym r.text ∙ e ∙ q.text) ∙ line_split after q.clean in
    let k : r.l ≡ q.l = cc in
    let f : ws ≡ vs = sym (line_fields a r.line).1 ∙ ap others k ∙ (line_fields a q.line).1 in
    record {
      same = f;
      left =
          sym (drop-append_seam (line_of word ws) rest) ∙ ap (drop (length (line_of word ws))) e
          ∙ rw f (drop-append_seam (line_of word vs) after);
    }

-- ---- the `use` lines of a task, up to what follows them

use_same : {u v : UseFigures} → u.K ≡ v.K → u.N ≡ v.N → u.c ≡ v.c → u.CT ≡ v.CT → u ≡ v
use_same a b c d = λ j. record { K = a j; N = b j; c = c j; CT = d j }

task_same : {x y : TaskFigures} → x.T ≡ y.T → x.C ≡ y.C → x.D ≡ y.D → x.alpha ≡ y.alpha → x.uses ≡ y.uses → x ≡ y
task_same a b c d e = λ j. record { T = a j; C = b j; D = c j; alpha = d j; uses = e j }

abbrev first_byte : List ℕ → ℕ
first_byte s = get_or s 0 0

-- a text that does not begin as a line of this word does
abbrev NoLine : String → List ℕ → Type 0
NoLine word s = first_byte s ≡ first_byte (bytes word) → ⊥

uses_one : {s t : List ℕ} {us vs : List UseFigures} {rest after : List ℕ} → StatesUses s us → StatesUses t vs → NoLine "use" rest → NoLine "use" after
    → s ++ rest ≡ t ++ after → One us vs rest after
uses_one StatesUses.no_use StatesUses.no_use p q e = record { same = refl; left = e }
uses_one StatesUses.no_use (by_use_line a r) p q e = absurd (p (ap first_byte e))
uses_one (by_use_line a r) StatesUses.no_use p q e = absurd (q (sym (ap first_byte e)))
uses_one {rest = rest} {after} (by_use_line {k} {n} {c} {ct} {rest = z} a r) (by_use_line {k = k'} {n = n'} {c = c'} {ct = ct'} {rest = z'} a' r') p q e =
    let o = one_line "use" use_word (use_fields a) (use_fields a')
    (sym (append_assoc (line_of "use" (k ∷ n ∷ c ∷ ct ∷ [])) z rest) ∙ e ∙ append_assoc (line_of "use" (k' ∷ n' ∷ c' ∷ ct' ∷ [])) z' after) in
    let i = uses_one r r' p q o.left in
    let u = use_same (count_one (cc o.same) a.resource a'.resource) (count_one (cc o.same) a.requests a'.requests)
    (time_one (cc o.same) a.longest a'.longest) (time_one (cc o.same) a.total a'.total) in
    record { same = cc (u, i.same); left = i.left }

-- ---- the `alpha` line of a task, up to what follows it

alpha_one : {s t : List ℕ} {a b : AlphaFigure} {rest after : List ℕ} → StatesAlpha s a → StatesAlpha t b → NoLine "alpha" rest → NoLine "alpha" after
    → s ++ rest ≡ t ++ after → One a b rest after
alpha_one no_alpha_line no_alpha_line p q e = record { same = refl; left = e }
alpha_one no_alpha_line (by_alpha_line c) p q e = absurd (p (ap first_byte e))
alpha_one (by_alpha_line c) no_alpha_line p q e = absurd (q (sym (ap first_byte e)))
alpha_one (by_alpha_line c) (by_alpha_line d) p q e =
    let o = one_line "alpha" alpha_word (more (count_field_lem c) none) (more (count_field_lem d) none) e in
    record { same = ap alpha_of (count_one (cc o.same) c d); left = o.left }

uses_no_alpha : {s : List ℕ} {us : List UseFigures} (rest : List ℕ) → StatesUses s us → NoLine "alpha" rest → NoLine "alpha" (s ++ rest)
uses_no_alpha rest StatesUses.no_use n h = n h
uses_no_alpha rest (by_use_line a r) n h = omega arith

-- ---- the tasks

-- tasks begin as no line before them or after a task line does
tasks_begin : {s : List ℕ} {xs : List TaskFigures} → StatesTasks s xs → NoLine "group" s × NoLine "alpha" s × NoLine "use" s
tasks_begin StatesTasks.no_tasks = (λ h. omega arith, λ h. omega arith, λ h. omega arith)
tasks_begin (by_task_line a b p r) = (λ h. omega arith, λ h. omega arith, λ h. omega arith)

tasks_one : {s t : List ℕ} {xs ys : List TaskFigures} → StatesTasks s xs → StatesTasks t ys → s ≡ t → xs ≡ ys
tasks_one StatesTasks.no_tasks StatesTasks.no_tasks e = refl
tasks_one StatesTasks.no_tasks (by_task_line a b p r) e = absurd (omega (arith, ap first_byte e))
tasks_one (by_task_line a b p r) StatesTasks.no_tasks e = absurd (omega (arith, ap first_byte e))
tasks_one (by_task_line {rest = z} a b p r) (by_task_line {rest = z'} a' b' p' r') e =
    let o = one_line "task" task_word (task_fields a) (task_fields a') e in
    let v = alpha_one b b' (uses_no_alpha z p (tasks_begin r).1) (uses_no_alpha z' p' (tasks_begin r').1) o.left in
    let u = uses_one p p' (tasks_begin r).2 (tasks_begin r').2 v.left in
    let x = task_same (time_one (cc o.same) a.period a'.period) (time_one (cc o.same) a.run a'.run) (time_one (cc o.same) a.deadline a'.deadline) v.same u.same in
    cc (x, tasks_one r r' u.left)

-- ---- the `group` lines, up to the tasks

groups_one : {s t : List ℕ} {xs ys : List GroupFigures} {rest after : List ℕ} → StatesGroups s xs → StatesGroups t ys → NoLine "group" rest → NoLine "group" after
    → s ++ rest ≡ t ++ after → One xs ys rest after
groups_one StatesGroups.no_group StatesGroups.no_group p q e = record { same = refl; left = e }
groups_one StatesGroups.no_group (by_group_line a r) p q e = absurd (p (ap first_byte e))
groups_one (by_group_line a r) StatesGroups.no_group p q e = absurd (q (sym (ap first_byte e)))
groups_one {rest = rest} {after} (by_group_line {g} {k} {rest = z} {x} a r) (by_group_line {g = g'} {k = k'} {rest = z'} {x = x'} a' r') p q e =
    let o = one_line "group" group_word (group_fields a) (group_fields a')
    (sym (append_assoc (line_of "group" (g ∷ k ∷ [])) z rest) ∙ e ∙ append_assoc (line_of "group" (g' ∷ k' ∷ [])) z' after) in
    let i = groups_one r r' p q o.left in
    let u : x.G ≡ x'.G = count_one (cc o.same) a.group a'.group in
    let v : x.K ≡ x'.K = count_one (cc o.same) a.resource a'.resource in
    let w : x ≡ x' = λ j. record { G = u j; K = v j } in
    record { same = cc (w, i.same); left = i.left }

-- ---- the listing

figures_one : {s t : List ℕ} {f g : Figures} → StatesFigures s f → StatesFigures t g → s ≡ t → f ≡ g
figures_one {f = f} {g} (by_cpus_line a b r) (by_cpus_line a' b' r') e =
    let o = one_line "cpus" cpus_word (more (count_field_lem a) none) (more (count_field_lem a') none) e in
    let c : f.M ≡ g.M = count_one (cc o.same) a a' in
    let i = groups_one b b' (tasks_begin r).0 (tasks_begin r').0 o.left in
    let h = i.same in
    let t = tasks_one r r' i.left in
    λ j. record { M = c j; groups = h j; tasks = t j }

pub unambiguous : Unambiguous
unambiguous s f g a b = figures_one a b refl
