-- The numbers that fields state, and those that are read.
-- Assumes nothing.
use Prim.Native.Nat.{ℕ, ◌≤◌}
use mathlib.Core.Path.{◌≡◌, refl}
use mathlib.Core.Bool.{Bool, true, false}
use mathlib.Core.List.{List, [], append-nil}
use native.Mathlib.Omega.{arith}
use lib.ListN.{length, get_or}
use Rattle.std.specs.Prelude.{Option, Some, None}
use Rattle.basics.specs.Text.{bytes}
use Rattle.field.specs.declared.Field.{Field}
use Rattle.field.specs.declared.Rounding.{Rounding}
use Rattle.field.specs.Number.{reads_as, first, time_field, count_field}
use Rattle.field.specs.Spelling.{Time, StatesTime, StatesCount}
use Rattle.field.proofs.Spelled.{count_states, StatesHeld, time_states, states_count, states_time, no_apart_count, no_apart_time, some_count, some_time}
use Rattle.line.specs.Fields.{others}
use Rattle.line.specs.Line.{formed, value}
use Rattle.line.specs.Stated.{IsField}
use Rattle.line.proofs.WordLaws.{field_alone, first_field, others_field}

-- a field that is read as a number
pub record IsRead (f : Option Field) (v : ℕ) : Type 0 where
  pub width : ℕ
  pub is : f ≡ reads_as v width

pub formed_states : (f : Option Field) → formed f ≡ true → IsRead f (value f)
formed_states (Some f) e = record { width = f.width; is = refl }
formed_states None e = let z : ◌≡◌ {A = Bool} true false = cc in record { width = 0; is = cc }

-- ---- from what is read to what is stated

pub others_alone : (l : List ℕ) (i : ℕ) → first (get_or (others l) i []) ≡ get_or (others l) i []
others_alone l i = let f = others_field l i in field_alone f.0 f.1

-- the time that a field states, held as v
abbrev pub time_of : {way : Rounding} {w : List ℕ} {v : ℕ} → StatesHeld way w v → ℕ → Time
time_of t v = record { typed = t.typed; held = v }

module _ {w : List ℕ} {v : ℕ} (a : first w ≡ w) where
  pub count_in_lem : IsRead (count_field w) v → StatesCount w v
  count_in_lem e = rw a at (count_states w v e.width e.is)

  pub time_in_lem : (way : Rounding) → IsRead (time_field way w) v → StatesHeld way w v
  time_in_lem way e = rw a at (time_states way w v e.width e.is)

-- ---- from what is stated to what is read

pub alone_field : {w : List ℕ} → first w ≡ w → 1 ≤ length w → IsField w
alone_field {w} a h = let f = first_field w in record { some = h; no_space = rw a at f.0; no_end = rw a at f.1 }

module _ {w : List ℕ} {v : ℕ} where
  pub count_field_lem : StatesCount w v → IsField w
  count_field_lem c = alone_field (rw append-nil at (no_apart_count w v c [] refl)) (some_count w v c)

  pub count_stated : StatesCount w v → IsRead (count_field w) v
  count_stated c = record { width = length (first w); is = states_count w v (rw (rw append-nil at (no_apart_count w v c [] refl)) c) }

module _ {way : Rounding} {w : List ℕ} {x : Time} where
  pub time_field_lem : StatesTime way w x → IsField w
  time_field_lem t = alone_field (rw append-nil at (no_apart_time w x.typed t.spells [] refl)) (some_time w x.typed t.spells)

  pub time_stated : StatesTime way w x → IsRead (time_field way w) x.held
  time_stated t = record { width = length (first w); is = states_time way w x (rw (rw append-nil at (no_apart_time w x.typed t.spells [] refl)) t) }

-- ---- the words of lines are fields

pub cpus_word : IsField (bytes "cpus")
cpus_word = alone_field refl (omega arith)

pub group_word : IsField (bytes "group")
group_word = alone_field refl (omega arith)

pub task_word : IsField (bytes "task")
task_word = alone_field refl (omega arith)

pub alpha_word : IsField (bytes "alpha")
alpha_word = alone_field refl (omega arith)

pub use_word : IsField (bytes "use")
use_word = alone_field refl (omega arith)
