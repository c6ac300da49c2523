-- A listing is refused with the number and at the place that it calls for (specs/Refusals.antt).
-- Assumes nothing.
use Prim.Native.Nat.{ℕ, ◌≤◌, ◌<◌}
use mathlib.Core.Path.{◌≡◌, refl, sym, ap, ◌∙◌}
use mathlib.Core.Bool.{Bool, true, false}
use mathlib.Core.List.{List, [], ◌∷◌, ◌++◌, append-nil}
use mathlib.Core.Logic.{◌⊎◌, inl, inr}
use native.Mathlib.Omega.{arith}
use native.Mathlib.Decide.{dec_lt}
use lib.ListN.{length}
use borrow.Author.Tests.{le-leb, lt-leb, lt-ltb, eqb-false}
use lib.Dec.{eqb}
use Rattle.basics.proofs.ChoiceLaws.{or_neither}
use Rattle.table.specs.declared.Table.{Table}
use Rattle.table.specs.declared.Fault.{Fault}
use Rattle.table.specs.declared.Fault.TheVariants.{TooLong, BadForm, NoTask, AlphaMissing}
use Rattle.table.specs.Answers.{accepted, refused}
use Rattle.table.specs.Limits.{max_listing}
use Rattle.table.specs.Empty.{empty_table}
use Rattle.table.specs.Faults.{number_of, Refuses}
use Rattle.table.specs.Rules.{all_or_none}
use Rattle.table.proofs.Deciding.{failing}
use Rattle.table.proofs.RuleFacts.{all_or_none_is}
use Rattle.line.specs.Stated.{no_byte, one_byte}
use Rattle.line.proofs.Called.{line_refused}
use Rattle.listing.specs.Read.{no_lines, read_end, read_listing}
use Rattle.meaning.specs.Figures.{AlphaFigure, no_alpha, alpha_of, TaskFigures, Figures, alpha_lines, alphas_of, table_of}
use Rattle.meaning.specs.Refusals.{left_by, next_line, Before, no_line, some_lines, CallsFor, RefusedAsCalled}
use Rattle.meaning.proofs.SplitLaws.{open_end}
use Rattle.meaning.proofs.StatesRead.{read_text}
use Rattle.meaning.proofs.ReadStates.{Stops, at_end, at_line}
use Rattle.meaning.proofs.Meaning.{left_counts}
use Rattle.meaning.proofs.UpTo.{StatesUpTo, stops_first, stops_later, states_up_to, figures_read, stop_line, stop_end}

-- ---- from what is called for to the answer

-- what stands before a line is read, and the reading goes on there
before_read : {s : List ℕ} {n : ℕ} {f : Figures} (left : List ℕ) → Before s n f
    → (t : Table) × (read_text empty_table no_lines 1 (s ++ left) ≡ read_text t (left_by f) n left)
before_read left no_line = (empty_table, refl)
before_read left (some_lines {f = f} a g) = (table_of f, figures_read left a g)

module _ (s : List ℕ) (l : length s ≤ max_listing) where
  text_read : read_listing s ≡ read_text empty_table no_lines 1 s
  unfolding read_listing
  text_read = rw (le-leb (length s) max_listing l)

  -- where it goes on with what is left, the answer is what is answered there
  goes_on : {before : List ℕ} {n : ℕ} {f : Figures} (left : List ℕ) → s ≡ before ++ left → Before before n f
      → (t : Table) × (read_listing s ≡ read_text t (left_by f) n left)
  goes_on left e b =
      let r = before_read left b in
      (r.0, text_read ∙ ap (read_text empty_table no_lines 1) e ∙ r.1)

tells : (s : List ℕ) (f : Fault) (place : ℕ) → read_listing s ≡ refused f place → Refuses (read_listing s) (number_of f) place
tells s f place e = (_, e, record { number = refl; place = refl })

-- some tasks only
neither : {a n : ℕ} → (a ≡ 0) ⊎ (a ≡ n) → 1 ≤ a → a < n → ⊥
neither (inl e) l h = omega arith
neither (inr e) l h = omega arith

answered : (s : List ℕ) {number place : ℕ} → CallsFor s number place → Refuses (read_listing s) number place
unfolding read_listing read_end
answered s (CallsFor.too_long l) = tells s TooLong 0 (rw (lt-leb (length s) max_listing l))
answered s (CallsFor.at_line before l rest {n} {number} {f} m e w b c) =
    let x = (line_refused (left_by f) n l number n w).1 (c, refl) in
    (x.0, (goes_on s m (l ++ (10 ∷ rest)) e b).1 ∙ stop_line _ (left_by f) n (record { rest = rest; text = refl; clean = w }) x.1, x.2)
answered s (CallsFor.not_ended before l {n} {f} m e w h b) =
    tells s BadForm n ((goes_on s m l e b).1 ∙ stop_end _ (left_by f) n w ∙ rw (open_end w h true))
answered s (CallsFor.empty e) = tells s BadForm 1 (rw e (stop_end empty_table no_lines 1 no_byte))
answered s (CallsFor.no_tasks {f} m a g e) =
    tells s NoTask 2
    ((goes_on s m [] (sym (append-nil s)) (some_lines a g)).1 ∙ stop_end _ (left_by f) (next_line f) no_byte
    ∙ rw (lt-ltb 1 (next_line f) (omega arith), (left_counts f).0 ∙ ap length e))
answered s (CallsFor.alpha_missing {f} m a g l h) =
    let c = left_counts f in
    let e : all_or_none (alphas_of f.tasks) (length f.tasks) ≡ false =
    failing _ (all_or_none_is (alphas_of f.tasks) (length f.tasks)).0 (λ z. neither z l h) in
    tells s AlphaMissing 0
    ((goes_on s m [] (sym (append-nil s)) (some_lines a g)).1 ∙ stop_end _ (left_by f) (next_line f) no_byte
    ∙ rw (lt-ltb 1 (next_line f) (omega arith), c.0, c.1, lt-ltb 0 (length f.tasks) (omega arith), e))

-- ---- from the answer to what is called for

-- no more tasks have an alpha than there are
lines_most : (a : AlphaFigure) → alpha_lines a ≤ 1
lines_most no_alpha = omega arith
lines_most (alpha_of A) = omega arith

alphas_most : (xs : List TaskFigures) → alphas_of xs ≤ length xs
alphas_most [] = omega arith
alphas_most (x ∷ xs) = omega (arith, lines_most x.alpha, alphas_most xs)

abbrev Called : List ℕ → Type 0
Called s = (number place : ℕ) × CallsFor s number place

abbrev IsAccepted : List ℕ → Type 0
IsAccepted s = (t : Table) × (read_listing s ≡ accepted t)

-- a listing that ends behind its last line calls for 9 or 17, or has a task and alpha for all tasks or none
abbrev Ends : ℕ → Figures → Type 0
Ends n f = (1 < n) × (1 ≤ length f.tasks) × (all_or_none (alphas_of f.tasks) (length f.tasks) ≡ true)

end_called : {s : List ℕ} {n : ℕ} {f : Figures} → length s ≤ max_listing → Before s n f → Called s ⊎ Ends n f
end_called l no_line = inl (2, 1, CallsFor.empty refl)
end_called {s} l (some_lines {f = f} a g) = go f.tasks refl
  where
    alphas : 1 ≤ length f.tasks → (b : Bool) → all_or_none (alphas_of f.tasks) (length f.tasks) ≡ b → Called s ⊎ Ends (next_line f) f
    alphas h true e = inr (omega arith, h, e)
    alphas h false e =
        let z = or_neither (eqb (alphas_of f.tasks) 0) _ e in
        let x = eqb-false (alphas_of f.tasks) 0 z.0 in
        let y = eqb-false (alphas_of f.tasks) (length f.tasks) z.1 in
        inl (17, 0, CallsFor.alpha_missing l a g (omega arith) (omega (arith, alphas_most f.tasks)))

    go : (xs : List TaskFigures) → f.tasks ≡ xs → Called s ⊎ Ends (next_line f) f
    go [] e = inl (9, 2, CallsFor.no_tasks l a g e)
    go (x ∷ xs) e = alphas (rw e (omega arith)) _ refl

module _ (s : List ℕ) (l : length s ≤ max_listing) where
  -- where it stops, something is called for, or nothing is said against it
  stop_called : (before left : List ℕ) {n : ℕ} {f : Figures} → s ≡ before ++ left → Before before n f → Stops (left_by f) n left
      → Called s ⊎ IsAccepted s
  unfolding read_end
  stop_called before left e b (at_line {l = line} {r} a x) =
      let c = (line_refused _ _ line _ _ a.clean).0 (r, x, record { number = refl; place = refl }) in
      inl (_, _, CallsFor.at_line before line a.rest l (e ∙ ap (λ (y : List ℕ). before ++ y) a.text) a.clean b c.0)
  stop_called before left e b (at_end (one_byte m r)) = inl (_, _, CallsFor.not_ended before left l e (one_byte m r) (omega arith) b)
  stop_called before left {n} {f} e b (at_end no_byte) = go (end_called {f = f} l (rw w b))
    where
      w : s ≡ before
      w = e ∙ append-nil before

      go : Called s ⊎ Ends n f → Called s ⊎ IsAccepted s
      go (inl c) = inl c
      go (inr h) =
          let c = left_counts f in
          let r = goes_on s l [] e b in
          inr (r.0, r.1 ∙ stop_end _ (left_by f) n no_byte ∙ rw (lt-ltb 1 n h.0, c.0, c.1, lt-ltb 0 (length f.tasks) h.1, h.2))

  all_called : Called s ⊎ IsAccepted s
  all_called = go (states_up_to s)
    where
      go : StatesUpTo s → Called s ⊎ IsAccepted s
      go (stops_first x) = stop_called [] s refl no_line x
      go (stops_later before left f e a g x) = stop_called before left e (some_lines a g) x

called : (s : List ℕ) {number place : ℕ} → Refuses (read_listing s) number place → CallsFor s number place
called s {number} {place} (r, e, t) = go (dec_lt max_listing (length s))
  where
    one : Called s ⊎ IsAccepted s → CallsFor s number place
    one (inl (i, at, c)) =
        let b = answered s c in
        let n : i ≡ number = cc in
        let p : at ≡ place = cc in
        rw (← n, ← p) c
    one (inr a) = absurd (cc a.1)

    go : Dec (max_listing < length s) → CallsFor s number place
    go (yes l) = one (inl (1, 0, CallsFor.too_long l))
    go (no l) = one (all_called s (omega arith))

pub refused_as_called : RefusedAsCalled
refused_as_called = record { line = line_refused; listing = λ s number place. (called s, answered s) }
