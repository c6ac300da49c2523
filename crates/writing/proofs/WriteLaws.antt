-- Laws of the writer: texts written one after the other, and how long the lines are.
-- Assumes nothing.
use Prim.Native.Nat.{ℕ, ◌+◌, ◌≤◌, ◌<◌}
use mathlib.Core.Path.{◌≡◌, refl, ap, ◌∙◌}
use mathlib.Core.List.{List, [], ◌∷◌, ◌++◌, append_assoc, append-nil}
use native.Mathlib.Numerals.{add-one}
use native.Mathlib.Omega.{arith}
use lib.Dec.{ltb}
use lib.ListN.{length, drop, get_or, length-append}
use Rattle.basics.specs.Choice.{pick}
use borrow.Author.Tests.{lt-ltb, le-ltb}
use Rattle.basics.specs.Over.{join_to}
use Rattle.basics.specs.Text.{bytes, ending, line_of}
use Rattle.basics.proofs.JoinLaws.{join_none, join_more, join_room}
use Rattle.basics.proofs.FillLaws.{rest_at, back_at, Filled, filled_part}
use Rattle.put.specs.Text.{count_text, time_text}
use Rattle.put.proofs.PlaceLaws.{filled_within}
use Rattle.table.specs.declared.Pair.{Pair}
use Rattle.table.specs.declared.Task.{Task}
use Rattle.table.specs.declared.Table.{Table}
use Rattle.table.specs.At.{task_at, pair_of}
use Rattle.writing.specs.Write.{use_text, pair_text, times_text, alpha_text, task_text, group_text, member_text, head_text}

-- ---- texts f 0, f 1, .., one after the other, behind h

module _ (h : List ℕ) (f : ℕ → List ℕ) where
  pub none_yet : h ++ join_to 0 f ≡ h
  none_yet = rw (join_none, append-nil)

  pub one_more_lem : (i : ℕ) → h ++ join_to (i + 1) f ≡ h ++ join_to i f ++ f i
  one_more_lem i = rw (join_more, append_assoc)

  pub more_length : (i : ℕ) → length (h ++ join_to (i + 1) f) ≡ length (h ++ join_to i f) + length (f i)
  more_length i = ap length (one_more_lem i) ∙ length-append (h ++ join_to i f) (f i)

  pub filled_first : {o o₁ : List ℕ} {a : ℕ} → Filled o o₁ h a → Filled o o₁ (h ++ join_to 0 f) a
  filled_first q = rw none_yet q

  -- i texts are written: there is room for the next if there is for all n
  module _ {o o₁ : List ℕ} {a : ℕ} (i : ℕ) (q : Filled o o₁ (h ++ join_to i f) a) where
    pub next_room : (n : ℕ) → i < n → length (h ++ join_to n f) ≤ length o → a + length (f i) ≤ length o₁
    next_room n l z = omega (arith, q.long, q.kept, length-append h (join_to i f), length-append h (join_to n f), join_room n i f l)

    pub filled_next : {ys : List ℕ} {k : ℕ} → length ys ≡ length (rest_at o₁ a) → (k ≡ length (f i)) × (ys ≡ f i ++ drop k (rest_at o₁ a))
        → Filled o (back_at o₁ a ys) (h ++ join_to (i + 1) f) (a + k)
    filled_next g e = rw (one_more_lem i) (filled_part q (f i) (filled_within q) e.0 g e.1)

-- what a writer of s put, where that is t
pub put_of : {s t ys : List ℕ} (o : List ℕ) {k : ℕ} → s ≡ t → (k ≡ length s) × (ys ≡ s ++ drop k o) → (k ≡ length t) × (ys ≡ t ++ drop k o)
put_of o e p = rw e at p

-- ---- the lines of the resource at slot k, which is resource k + 1

pub pair_at : (x : Task) (k : ℕ) → pick (ltb 0 (pair_of x k).requests) (use_text (k + 1) (pair_of x k)) [] ≡ pair_text x k
unfolding pair_text
pair_at x k = rw add-one

pub member_at : (groups : List ℕ) (k : ℕ) → pick (ltb 0 (get_or groups k 0)) (group_text (get_or groups k 0) (k + 1)) [] ≡ member_text groups k
unfolding member_text
member_at groups k = rw add-one

-- ---- how long a line is

-- the fields, each with the space before it, and the LF
abbrev widths : List (List ℕ) → ℕ
widths [] = 1
widths (w ∷ ws) = 1 + length w + widths ws

ending_length : (ws : List (List ℕ)) → length (ending ws) ≡ widths ws
ending_length [] = refl
ending_length (w ∷ ws) = omega (arith, length-append w (ending ws), ending_length ws)

module _ (K : ℕ) (p : Pair) where
  pub use_length : length (use_text K p) ≡ 8 + length (count_text K) + length (count_text p.requests) + length (time_text p.longest) + length (time_text p.total)
  unfolding use_text
  use_length = omega (arith, ending_length (count_text K ∷ count_text p.requests ∷ time_text p.longest ∷ time_text p.total ∷ []))

module _ (x : Task) where
  pub times_length : length (times_text x) ≡ 8 + length (time_text x.period) + length (time_text x.run) + length (time_text x.deadline)
  times_length = omega (arith, ending_length (time_text x.period ∷ time_text x.run ∷ time_text x.deadline ∷ []))

-- a line of a word and a count
pub counted_length : (word : List ℕ) (n : ℕ) → length (word ++ ending (count_text n ∷ [])) ≡ length word + 2 + length (count_text n)
counted_length word n = length-append word (ending (count_text n ∷ [])) ∙ omega (arith, ending_length (count_text n ∷ []))

module _ (A : ℕ) where
  pub alpha_none : A ≡ 0 → alpha_text A ≡ []
  unfolding alpha_text
  alpha_none e = rw (le-ltb 0 A (omega arith))

  pub alpha_some : (A ≡ 0 → ⊥) → alpha_text A ≡ line_of "alpha" (count_text A ∷ [])
  unfolding alpha_text
  alpha_some n = rw (lt-ltb 0 A (omega arith))

module _ (G K : ℕ) where
  pub group_length : length (group_text G K) ≡ 8 + length (count_text G) + length (count_text K)
  unfolding group_text
  group_length = omega (arith, ending_length (count_text G ∷ count_text K ∷ []))

-- the first line
abbrev pub cpus_text : ℕ → List ℕ
cpus_text m = line_of "cpus" (count_text m ∷ [])

pub cpus_length : (m : ℕ) → length (cpus_text m) ≡ 6 + length (count_text m)
cpus_length = counted_length (bytes "cpus")

module _ (t : Table) where
  -- the lines before the tasks
  abbrev pub head_of : List ℕ
  head_of = head_text t.cpus t.groups

  -- the lines of task i + 1
  abbrev pub lines_of : ℕ → List ℕ
  lines_of i = task_text (task_at t i)
