-- Document 01, "Refusals by number", and requests 8/12 and 9/12 of document 02, of one line, said a second way: the number that it calls for, after what the lines before it leave. `Line` says it by tests in a
-- chain that the first fault ends; here each case stands by itself, in the paper's order, over the words of the line and the figures that they state.
use Rattle.std.specs.Prelude.{ℕ, ◌+◌, ◌≤◌, ◌<◌, ◌≡◌, true, List, [], ◌∷◌, Result, Err}
use Rattle.basics.specs.Exactly.{◌exactly_if◌}
use Rattle.table.specs.declared.Refusal.{Refusal}
use Rattle.table.specs.Limits.{max_cpus, max_tasks, max_resources, max_group, max_alpha}
use Rattle.table.specs.Faults.{Told}
use Rattle.table.specs.Refusals.{InRange, TimesInRange, TimesInOrder, UsedInRange, TotalsFit}
use Rattle.field.specs.Spelling.{Time, StatesCount}
use Rattle.line.specs.declared.Past.{Past}
use Rattle.line.specs.declared.Said.{Said}
use Rattle.line.specs.Line.{line_says}
use Rattle.line.specs.Stated.{Without, IsLine, StatesGroup, StatesTask, UseFigures, StatesUse, held_pair}

-- ---- "within a line 2, 3, 8, 4, 5, 6, 7, the first fault deciding": from 3 on, by its fields

-- `cpus M`
pub data CpusLineCalls (m : List ℕ) : ℕ → Type 0 where
  -- "a field badly formed"
  bad_field : ((M : ℕ) → StatesCount m M → ⊥) → CpusLineCalls m 3
  -- "a number outside its range"
  out_of_range : {M : ℕ} → StatesCount m M → (InRange 1 max_cpus M → ⊥) → CpusLineCalls m 4

-- `group G K`
pub data GroupLineCalls (past : Past) (g k : List ℕ) : ℕ → Type 0 where
  bad_field : ((G K : ℕ) → StatesGroup g k G K → ⊥) → GroupLineCalls past g k 3
  -- "both count fields, 1 to 16"
  out_of_range : {G K : ℕ} → StatesGroup g k G K → (InRange 1 max_group G × InRange 1 max_resources K → ⊥) → GroupLineCalls past g k 4
  -- "K not above the K of the group line before, after 4"
  group_not_rising : {G K : ℕ} → StatesGroup g k G K → InRange 1 max_group G → InRange 1 max_resources K → K ≤ past.group.0 → GroupLineCalls past g k 19

-- `task T C D`
pub data TaskLineCalls (past : Past) (t c d : List ℕ) : ℕ → Type 0 where
  bad_field : ((T C D : Time) → StatesTask t c d T C D → ⊥) → TaskLineCalls past t c d 3
  -- "more than 32 tasks"
  too_many : {T C D : Time} → StatesTask t c d T C D → max_tasks ≤ past.tasks → TaskLineCalls past t c d 8
  out_of_range : {T C D : Time} → StatesTask t c d T C D → past.tasks < max_tasks → (TimesInRange T.held C.held D.held → ⊥) → TaskLineCalls past t c d 4
  -- "C above D, or D above T"
  bad_times : {T C D : Time} → StatesTask t c d T C D → past.tasks < max_tasks → TimesInRange T.held C.held D.held
      → (TimesInOrder T.held C.held D.held → ⊥) → TaskLineCalls past t c d 5

-- `alpha A`
pub data AlphaLineCalls (past : Past) (a : List ℕ) : ℕ → Type 0 where
  bad_field : ((A : ℕ) → StatesCount a A → ⊥) → AlphaLineCalls past a 3
  out_of_range : {A : ℕ} → StatesCount a A → (InRange 1 max_alpha A → ⊥) → AlphaLineCalls past a 4
  -- "alpha above that of the last task before with one"
  alpha_rises : {A : ℕ} → StatesCount a A → InRange 1 max_alpha A → 1 ≤ past.alpha → past.alpha < A → AlphaLineCalls past a 18

-- `use K N c CT`
pub data UseLineCalls (past : Past) (k n c ct : List ℕ) : ℕ → Type 0 where
  bad_field : ((u : UseFigures) → StatesUse k n c ct u → ⊥) → UseLineCalls past k n c ct 3
  out_of_range : {u : UseFigures} → StatesUse k n c ct u → (InRange 1 max_resources u.K × UsedInRange (held_pair u) → ⊥) → UseLineCalls past k n c ct 4
  -- "K not above the K before it in the task"
  not_rising : {u : UseFigures} → StatesUse k n c ct u → InRange 1 max_resources u.K → UsedInRange (held_pair u) → u.K ≤ past.last.0 → UseLineCalls past k n c ct 6
  -- "c ≤ CT ≤ N × c fails, or the CT so far sum above C"
  bad_totals : {u : UseFigures} → StatesUse k n c ct u → InRange 1 max_resources u.K → UsedInRange (held_pair u) → past.last.0 < u.K
      → (TotalsFit (held_pair u) (past.sum + u.CT.held) past.run → ⊥) → UseLineCalls past k n c ct 7

-- ---- line n, after what the lines before it leave: `cpus` first and only there, `group` after it and before any task, `alpha` right after a task line, `use` after a task

pub data LineCallsFor (past : Past) (n : ℕ) (s : List ℕ) : ℕ → Type 0 where
  -- "line not of its form or place"
  bad_form : (n ≡ 1 → (m : List ℕ) → IsLine "cpus" (m ∷ []) s → ⊥)
      → (1 < n → past.tasks ≡ 0 → (g k : List ℕ) → IsLine "group" (g ∷ k ∷ []) s → ⊥)
      → (1 < n → (t c d : List ℕ) → IsLine "task" (t ∷ c ∷ d ∷ []) s → ⊥)
      → (past.fresh ≡ true → (a : List ℕ) → IsLine "alpha" (a ∷ []) s → ⊥)
      → (1 ≤ past.tasks → (k r c ct : List ℕ) → IsLine "use" (k ∷ r ∷ c ∷ ct ∷ []) s → ⊥) → LineCallsFor past n s 2
  of_cpus : {m : List ℕ} {number : ℕ} → n ≡ 1 → IsLine "cpus" (m ∷ []) s → CpusLineCalls m number → LineCallsFor past n s number
  of_group : {g k : List ℕ} {number : ℕ} → 1 < n → past.tasks ≡ 0 → IsLine "group" (g ∷ k ∷ []) s → GroupLineCalls past g k number → LineCallsFor past n s number
  of_task : {t c d : List ℕ} {number : ℕ} → 1 < n → IsLine "task" (t ∷ c ∷ d ∷ []) s → TaskLineCalls past t c d number → LineCallsFor past n s number
  of_alpha : {a : List ℕ} {number : ℕ} → past.fresh ≡ true → IsLine "alpha" (a ∷ []) s → AlphaLineCalls past a number → LineCallsFor past n s number
  of_use : {k r c ct : List ℕ} {number : ℕ} → 1 ≤ past.tasks → IsLine "use" (k ∷ r ∷ c ∷ ct ∷ []) s → UseLineCalls past k r c ct number
      → LineCallsFor past n s number

-- ---- the two agree: a line is refused with the number that it calls for, and at its own number

-- what is said is a refusal with this number, at this place
abbrev pub SaysNot : Result Said Refusal → ℕ → ℕ → Type 0
SaysNot x number place = (r : Refusal) × (x ≡ Err r) × Told r number place

abbrev pub LineRefused : Type 0
LineRefused =
    (past : Past) (n : ℕ) (s : List ℕ) (number place : ℕ) → Without 10 s
    → SaysNot (line_says past n s) number place exactly_if (LineCallsFor past n s number × (place ≡ n))
