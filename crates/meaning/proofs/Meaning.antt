-- The two ways to say what a listing means agree (specs/Meaning.antt).
-- Assumes nothing.
use Prim.Native.Nat.{ℕ, ◌≤◌, ◌<◌}
use mathlib.Core.Path.{◌≡◌, refl, sym, ap, ◌∙◌}
use mathlib.Core.Bool.{Bool, true, false}
use mathlib.Core.List.{List, [], ◌∷◌, ◌++◌, append-nil}
use native.Mathlib.Omega.{arith}
use lib.ListN.{length}
use lib.Dec.{leb, ltb}
use borrow.Author.Tests.{le-leb, ltb-true, lt-ltb}
use Rattle.basics.specs.Choice.{pick}
use Rattle.table.specs.declared.Table.{Table}
use Rattle.table.specs.declared.Resource.{Resource}
use Rattle.table.specs.declared.Fault.TheVariants.{TooLong, BadForm, NoTask, AlphaMissing}
use Rattle.table.specs.Answers.{table_from}
use Rattle.table.specs.Limits.{max_listing}
use Rattle.table.specs.Empty.{empty_table}
use Rattle.table.specs.Answers.{accepted, refused}
use Rattle.table.specs.Rules.{all_or_none}
use Rattle.table.proofs.RuleFacts.{all_or_none_is}
use Rattle.table.proofs.Acceptance.{accepted_fine}
use Rattle.line.specs.declared.Past.{Past}
use Rattle.line.specs.Stated.{Without, no_byte, one_byte}
use Rattle.listing.specs.Lines.{ends_in_LF}
use Rattle.listing.specs.Read.{no_lines, read_end, read_listing}
use Rattle.meaning.specs.Figures.{TaskFigures, Figures, StatesFigures, alphas_of, GoodSoFar, GoodFigures, table_of}
use Rattle.meaning.specs.Refusals.{left_after, left_by, next_line}
use Rattle.meaning.specs.Meaning.{Correct, Complete, PassesCheck}
use Rattle.meaning.proofs.SplitLaws.{open_end}
use Rattle.meaning.proofs.FigureLaws.{good_table}
use Rattle.meaning.proofs.StatesRead.{read_text}
use Rattle.meaning.proofs.ReadStates.{Stops, at_end, at_line}
use Rattle.meaning.proofs.UpTo.{StatesUpTo, stops_first, stops_later, states_up_to, figures_read, stop_line, stop_end}

-- ---- correct

-- what `Correct` says of a listing that is accepted with t
abbrev Right : List ℕ → Table → Type 0
Right s t = (f : Figures) × StatesFigures s f × GoodFigures f × (t ≡ table_of f)

-- an accepted reading ends behind its last line, after a task, and with alpha for all tasks or none
record Ended (past : Past) (n : ℕ) (s : List ℕ) (t u : Table) : Type 0 where
  all : s ≡ []
  lines : 1 < n
  some : 1 ≤ past.tasks
  alphas : all_or_none past.alphas past.tasks ≡ true
  table : u ≡ t

end_is : {t u : Table} (past : Past) (n : ℕ) {s : List ℕ} → Without 10 s → read_end t past n (ends_in_LF true s) ≡ accepted u → Ended past n s t u
unfolding read_end
end_is {t} {u} past n no_byte q = go (ltb 1 n) refl (ltb 0 past.tasks) refl (all_or_none past.alphas past.tasks) refl q
  where
    go : (l : Bool) → ltb 1 n ≡ l → (b : Bool) → ltb 0 past.tasks ≡ b → (d : Bool) → all_or_none past.alphas past.tasks ≡ d
        → pick l (pick b (pick d (accepted t) (refused AlphaMissing 0)) (refused NoTask 2)) (refused BadForm n) ≡ accepted u → Ended past n [] t u
    go true e true f true g q =
        record { all = refl; lines = ltb-true 1 n e; some = ltb-true 0 past.tasks f; alphas = g; table = sym (ap table_from q) }
    go true e true f false g q = absurd cc
    go true e false f d g q = absurd cc
    go false e b f d g q = absurd cc
end_is past n (one_byte m r) q = absurd (cc (rw (open_end (one_byte m r) (omega arith) true) at q))

-- what tasks leave says how many they are, and how many have an alpha
after_counts : (K : Resource) (xs : List TaskFigures) → ((left_after K xs).tasks ≡ length xs) × ((left_after K xs).alphas ≡ alphas_of xs)
after_counts K [] = (refl, refl)
after_counts K (x ∷ xs) = (refl, refl)

pub left_counts : (f : Figures) → ((left_by f).tasks ≡ length f.tasks) × ((left_by f).alphas ≡ alphas_of f.tasks)
left_counts f = after_counts _ f.tasks

text_right : (s : List ℕ) (t : Table) → read_text empty_table no_lines 1 s ≡ accepted t → Right s t
text_right s t q = go (states_up_to s)
  where
    first : Stops no_lines 1 s → Right s t
    first (at_end w) = absurd (omega (arith, (end_is no_lines 1 w (sym (stop_end empty_table no_lines 1 w) ∙ q)).lines))
    first (at_line a d) = absurd (cc (stop_line empty_table no_lines 1 a d))

    later : (before left : List ℕ) (f : Figures) → s ≡ before ++ left → StatesFigures before f → GoodSoFar f → Stops (left_by f) (next_line f) left
        → read_text (table_of f) (left_by f) (next_line f) left ≡ accepted t → Right s t
    later before left f e states g (at_end w) q =
        let r = end_is (left_by f) (next_line f) w (sym (stop_end (table_of f) (left_by f) (next_line f) w) ∙ q) in
        let n = left_counts f in (
          f,
          rw (e, r.all, append-nil before) states,
          record { so_far = g; tasks_least = rw n.0 at r.some; alphas = (all_or_none_is _ _).0 (rw (n.0, n.1) at r.alphas) },
          r.table,
        )
    later before left f e states g (at_line a d) q = absurd (cc (stop_line (table_of f) _ _ a d))

    go : StatesUpTo s → Right s t
    go (stops_first x) = first x
    go (stops_later before left f e states g x) = later before left f e states g x (sym (figures_read left states g) ∙ rw e at q)

pub correct : Correct
unfolding read_listing
correct s t q = go (leb (length s) max_listing) q
  where
    go : (b : Bool) → pick b (read_text empty_table no_lines 1 s) (refused TooLong 0) ≡ accepted t → Right s t
    go true q = text_right s t q
    go false q = absurd cc

-- ---- complete

pub complete : Complete
unfolding read_listing read_end
complete s f l a g =
    rw (le-leb (length s) max_listing l)
    (sym (ap (read_text empty_table no_lines 1) (append-nil s)) ∙ figures_read [] a g.so_far ∙ stop_end (table_of f) (left_by f) (next_line f) no_byte
    ∙ (let n = left_counts f in
    rw (
      lt-ltb 1 (next_line f) (omega arith),
      n.0,
      n.1,
      lt-ltb 0 (length f.tasks) g.tasks_least,
      (all_or_none_is (alphas_of f.tasks) (length f.tasks)).1 g.alphas,
    )))

-- ---- the check of a table

pub passes_check : PassesCheck
passes_check s t q = let a = correct s t q in rw a.3 (accepted_fine (table_of a.0) (good_table a.0 a.2))
