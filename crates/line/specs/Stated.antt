-- A line of a listing said a second way, without reading it: which bytes are a line of words, and which figures its fields state.
use Rattle.std.specs.Prelude.{ℕ, ◌≤◌, ◌≡◌, List, [], ◌∷◌, ◌++◌, length}
use Prim.Native.String.{String}
use Rattle.basics.specs.Text.{line_of}
use Rattle.table.specs.declared.Pair.{Pair}
use Rattle.field.specs.declared.Rounding.TheVariants.{Down, Up}
use Rattle.field.specs.Spelling.{Time, StatesTime, StatesCount}

-- ---- "Lines end in LF; fields are parted by exactly one space."

-- a text in which no byte is b
pub data Without (b : ℕ) : List ℕ → Type 0 where
  no_byte : Without b []
  one_byte : {c : ℕ} {s : List ℕ} → (c ≡ b → ⊥) → Without b s → Without b (c ∷ s)

-- a field: not empty, and without a space; nor with an LF, at which the line would end
pub record IsField (w : List ℕ) : Type 0 where
  pub some : 1 ≤ length w
  pub no_space : Without 32 w
  pub no_end : Without 10 w

pub data AreFields : List (List ℕ) → Type 0 where
  none : AreFields []
  more : {w : List ℕ} {ws : List (List ℕ)} → IsField w → AreFields ws → AreFields (w ∷ ws)

-- s, to which the LF does not belong, is the line of a word and fields
pub record IsLine (word : String) (ws : List (List ℕ)) (s : List ℕ) : Type 0 where
  pub text : s ++ (10 ∷ []) ≡ line_of word ws
  pub fields : AreFields ws

-- ---- what the fields of a line state. "A run time, longest request or total (C, c, CT) is rounded up to the microsecond;
-- a period or deadline (T, D) is rounded down" (document 02, 1/12)

-- `group G K` (9/12)
pub record StatesGroup (g k : List ℕ) (G K : ℕ) : Type 0 where
  pub group : StatesCount g G
  pub resource : StatesCount k K

-- `task T C D`
pub record StatesTask (t c d : List ℕ) (T C D : Time) : Type 0 where
  pub period : StatesTime Down t T
  pub run : StatesTime Up c C
  pub deadline : StatesTime Down d D

-- `use K N c CT`: these figures
pub record UseFigures : Type 0 where
  pub K : ℕ
  pub N : ℕ
  pub c : Time
  pub CT : Time

pub record StatesUse (k n c ct : List ℕ) (u : UseFigures) : Type 0 where
  pub resource : StatesCount k u.K
  pub requests : StatesCount n u.N
  pub longest : StatesTime Up c u.c
  pub total : StatesTime Up ct u.CT

-- and the pair that the table holds of them
abbrev pub held_pair : UseFigures → Pair
held_pair u = record { requests = u.N; longest = u.c.held; total = u.CT.held }
