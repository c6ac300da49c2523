-- How long a word is, a row part by part, and what a row with a verdict's cells says.
-- Assumes nothing.
use Prim.Native.Nat.{ℕ, ◌≤◌}
use mathlib.Core.Path.{◌≡◌, refl, ◌∙◌}
use mathlib.Core.List.{List, [], ◌∷◌, ◌++◌, append_assoc, append-nil}
use native.Mathlib.Omega.{arith}
use lib.ListN.{length}
use Rattle.basics.specs.Text.{bytes, ending}
use Rattle.theory.specs.declared.Verdict.{Verdict}
use Rattle.theory.specs.declared.Verdict.TheVariants.{Meets, Misses, Open}
use Rattle.page.specs.declared.Word.{Word}
use Rattle.page.specs.declared.Word.TheVariants.{Meets as SaysMeets, Misses as SaysMisses, Open as SaysOpen}
use Rattle.put.specs.Text.{count_text}
use Rattle.analysis.specs.declared.Record.{Record}
use Rattle.page.specs.declared.Cells.{Cells}
use Rattle.page.specs.declared.Last.{Last}
use Rattle.page.specs.declared.Last.TheVariants.{Nothing, Dash as NoWait, Of as OfWait}
use Rattle.page.specs.Report.{bound_text, row_with, row_text}
use Rattle.page.specs.Pages.{cells_of, word_text, spaced_last, row_of}

pub word_most : (w : Word) → length (word_text w) ≤ 6
word_most SaysMeets = omega arith
word_most SaysMisses = omega arith
word_most SaysOpen = omega arith

-- five fields, each put behind the last, are a line
spaced_fields : (a b c d e : List ℕ) → ((((a ++ 32 ∷ b) ++ 32 ∷ c) ++ 32 ∷ d) ++ 32 ∷ e) ++ 10 ∷ [] ≡ a ++ ending (b ∷ c ∷ d ∷ e ∷ [])
spaced_fields a b c d e =
    let s2 = a ++ 32 ∷ b in
    let s3 = s2 ++ 32 ∷ c in
    append_assoc (s3 ++ 32 ∷ d) (32 ∷ e) (10 ∷ []) ∙ append_assoc s3 (32 ∷ d) (ending (e ∷ [])) ∙ append_assoc s2 (32 ∷ c) (ending (d ∷ e ∷ [])) ∙ append_assoc a (32 ∷ b) (ending (c ∷ d ∷ e ∷ []))

-- a row, part by part as it is put
pub row_parts : (x : Record) (c : Cells) (last : Last)
    → ((((count_text x.task.0 ++ 32 ∷ word_text c.0) ++ 32 ∷ bound_text c.1) ++ 32 ∷ count_text x.rounds) ++ spaced_last last) ++ 10 ∷ [] ≡ row_of x c last
unfolding row_with
row_parts x c Nothing = rw append-nil (simp append_assoc)
row_parts x c NoWait = spaced_fields (count_text x.task.0) (word_text c.0) (bound_text c.1) (count_text x.rounds) (bytes "-")
row_parts x c (OfWait w) = spaced_fields (count_text x.task.0) (word_text c.0) (bound_text c.1) (count_text x.rounds) (count_text w)

pub row_verdict : (number : ℕ) (v : Verdict) (rounds : ℕ) (more : List (List ℕ)) → let c = cells_of v in row_with number (word_text c.0) c.1 rounds more ≡ row_text number v rounds more
unfolding row_text
row_verdict number (Meets t) rounds more = refl
row_verdict number Misses rounds more = refl
row_verdict number Open rounds more = refl
