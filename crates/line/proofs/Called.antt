-- A line is refused with the number that it calls for (specs/Refusals.antt).
-- Assumes nothing.
use Prim.Native.Nat.{ℕ, ◌≤◌, ◌<◌}
use mathlib.Core.Path.{◌≡◌, refl, sym}
use mathlib.Core.Bool.{Bool, true, false, ◌&&◌, and-false}
use mathlib.Core.List.{List, [], ◌∷◌}
use native.Mathlib.Omega.{arith}
use borrow.Author.Tests.{eqb-true, eq-eqb, ne_eqb, ltb-true, lt-ltb}
use lib.Dec.{ltb, eqb}
use Rattle.basics.specs.Choice.{pick}
use Rattle.basics.specs.Text.{bytes}
use Rattle.basics.proofs.ChoiceLaws.{and_true}
use Rattle.table.specs.declared.Refusal.{Refusal}
use Rattle.table.specs.declared.Fault.TheVariants.{BadForm}
use Rattle.table.specs.Faults.{Checked}
use Rattle.std.specs.Prelude.{Result, Ok, Err}
use Rattle.table.specs.Faults.{Refuses}
use Rattle.table.proofs.Deciding.{fails, failing}
use Rattle.line.specs.declared.Past.{Past}
use Rattle.line.specs.declared.Said.{Said}
use Rattle.line.specs.Fields.{form}
use Rattle.line.specs.Line.{◌gives◌, cpus_line, group_line, task_line, alpha_line, use_line, line_says}
use Rattle.line.specs.Stated.{Without, IsLine}
use Rattle.line.specs.Refusals.{LineCallsFor, SaysNot, LineRefused}
use Rattle.line.proofs.WordLaws.{form_line}
use Rattle.line.proofs.LineForm.{line_fields, line_form, form_other}
use Rattle.line.proofs.StatedLaws.{others_alone, cpus_word, group_word, task_word, alpha_word, use_word}
use Rattle.line.proofs.FieldCalls.{cpus_calls, cpus_given, task_calls, task_given}
use Rattle.line.proofs.GroupCalls.{group_calls, group_given}
use Rattle.line.proofs.AlphaCalls.{alpha_calls, alpha_given}
use Rattle.line.proofs.UseCalls.{use_calls, use_given}

-- ---- what is said after a check

not_given : (x : Checked) (y : Said) {k p : ℕ} → SaysNot (x gives y) k p → Refuses x k p
not_given (Ok _) y (r, e, t) = let z : ◌≡◌ {A = ℕ} 0 1 = cc in absurd (omega arith)
not_given (Err r) y (q, e, t) = let z : r ≡ q = cc in (q, rw z, t)

given_not : (x : Checked) (y : Said) {k p : ℕ} → Refuses x k p → SaysNot (x gives y) k p
given_not (Ok _) y (r, e, t) = let z : ◌≡◌ {A = ℕ} 0 1 = cc in absurd (omega arith)
given_not (Err r) y (q, e, t) = let z : r ≡ q = cc in (q, rw z, t)

-- 2 of line n
not_told : {n k p : ℕ} → SaysNot (Err (record { fault = BadForm; place = n })) k p → (2 ≡ k) × (n ≡ p)
not_told {n} (r, e, t) = let q : record { fault = BadForm; place = n } ≡ r = cc in (cc t.number, cc t.place)

-- a choice of what a line says
chosen : (b : Bool) (x y : Result Said Refusal) (P : Result Said Refusal → Type 0) → (b ≡ true → P x) → (b ≡ false → P y) → P (pick b x y)
chosen true x y P f g = f refl
chosen false x y P f g = g refl

-- ---- a line by its form and place

module _ (past : Past) (n : ℕ) (s : List ℕ) where
  abbrev is_cpus_test : Bool
  is_cpus_test = form (bytes "cpus") 2 s && eqb n 1

  abbrev is_group : Bool
  is_group = form (bytes "group") 3 s && (ltb 1 n && eqb past.tasks 0)

  abbrev is_task_test : Bool
  is_task_test = form (bytes "task") 4 s && ltb 1 n

  abbrev is_alpha_test : Bool
  is_alpha_test = form (bytes "alpha") 2 s && past.fresh

  abbrev is_use_test : Bool
  is_use_test = form (bytes "use") 5 s && ltb 0 past.tasks

  cpus_form : n ≡ 1 → {m : List ℕ} → IsLine "cpus" (m ∷ []) s → is_cpus_test ≡ true
  cpus_form e l = rw (line_form cpus_word l, eq-eqb n 1 e)

  group_form : 1 < n → past.tasks ≡ 0 → {g k : List ℕ} → IsLine "group" (g ∷ k ∷ []) s → is_group ≡ true
  group_form h e l = rw (line_form group_word l, lt-ltb 1 n h, eq-eqb past.tasks 0 e)

  -- such a line is of that form, and stands there
  group_parts : is_group ≡ true → (form (bytes "group") 3 s ≡ true) × (1 < n) × (past.tasks ≡ 0)
  group_parts e =
      let f = and_true (form (bytes "group") 3 s) (ltb 1 n && eqb past.tasks 0) e in
      let h = and_true (ltb 1 n) (eqb past.tasks 0) f.1 in
      (f.0, ltb-true 1 n h.0, eqb-true past.tasks 0 h.1)

  task_form : 1 < n → {t c d : List ℕ} → IsLine "task" (t ∷ c ∷ d ∷ []) s → is_task_test ≡ true
  task_form h l = rw (line_form task_word l, lt-ltb 1 n h)

  alpha_form : past.fresh ≡ true → {a : List ℕ} → IsLine "alpha" (a ∷ []) s → is_alpha_test ≡ true
  alpha_form e l = rw (line_form alpha_word l, e)

  use_form : 1 ≤ past.tasks → {k r c ct : List ℕ} → IsLine "use" (k ∷ r ∷ c ∷ ct ∷ []) s → is_use_test ≡ true
  use_form h l = rw (line_form use_word l, lt-ltb 0 past.tasks h)

  -- ---- what is said is called for

  abbrev Called : ℕ → ℕ → Result Said Refusal → Type 0
  Called k p x = SaysNot x k p → LineCallsFor past n s k × (p ≡ n)

  -- of none of these forms and places
  form_called : (k p : ℕ) → is_cpus_test ≡ false → is_group ≡ false → is_task_test ≡ false → is_alpha_test ≡ false → is_use_test ≡ false → Called k p (Err (record { fault = BadForm; place = n }))
  form_called k p x u y v z q =
      let r = not_told q in (
        rw (← r.0) (LineCallsFor.bad_form (λ e m l. fails is_cpus_test (λ (l : IsLine "cpus" (m ∷ []) s). cpus_form e l) x l)
            (λ h e g k l. fails is_group (λ (l : IsLine "group" (g ∷ k ∷ []) s). group_form h e l) u l)
            (λ h t c d l. fails is_task_test (λ (l : IsLine "task" (t ∷ c ∷ d ∷ []) s). task_form h l) y l)
            (λ e a l. fails is_alpha_test (λ (l : IsLine "alpha" (a ∷ []) s). alpha_form e l) v l)
            (λ h k r c ct l. fails is_use_test (λ (l : IsLine "use" (k ∷ r ∷ c ∷ ct ∷ []) s). use_form h l) z l)),
        sym r.1,
      )

  line_calls : (k p : ℕ) → Without 10 s → Called k p (line_says past n s)
  unfolding line_says cpus_line group_line task_line alpha_line use_line
  line_calls k p w =
      chosen is_cpus_test _ _ (Called k p)
      (λ x q.
      let f = and_true (form (bytes "cpus") 2 s) (eqb n 1) x in
      let r = cpus_calls n (others_alone s 0) k p (not_given _ _ q) in
      (LineCallsFor.of_cpus (eqb-true n 1 f.1) (form_line "cpus" 1 s w f.0) r.0, sym r.1))
      (λ x. chosen is_group _ _ (Called k p)
      (λ u q.
      let f = group_parts u in
      let r = group_calls past n (others_alone s 0) (others_alone s 1) k p (not_given _ _ q) in
      (LineCallsFor.of_group f.1 f.2 (form_line "group" 2 s w f.0) r.0, sym r.1))
      (λ u. chosen is_task_test _ _ (Called k p)
      (λ y q.
      let f = and_true (form (bytes "task") 4 s) (ltb 1 n) y in
      let r = task_calls past n (others_alone s 0) (others_alone s 1) (others_alone s 2) k p (not_given _ _ q) in
      (LineCallsFor.of_task (ltb-true 1 n f.1) (form_line "task" 3 s w f.0) r.0, sym r.1))
      (λ y. chosen is_alpha_test _ _ (Called k p)
      (λ v q.
      let f = and_true (form (bytes "alpha") 2 s) past.fresh v in
      let r = alpha_calls past n (others_alone s 0) k p (not_given _ _ q) in
      (LineCallsFor.of_alpha f.1 (form_line "alpha" 1 s w f.0) r.0, sym r.1))
      (λ v. chosen is_use_test _ _ (Called k p)
      (λ z q.
      let f = and_true (form (bytes "use") 5 s) (ltb 0 past.tasks) z in
      let r = use_calls past n (others_alone s 0) (others_alone s 1) (others_alone s 2) (others_alone s 3) k p (not_given _ _ q) in
      (LineCallsFor.of_use (ltb-true 0 _ f.1) (form_line "use" 4 s w f.0) r.0, sym r.1))
      (λ z. form_called k p x u y v z)))))

  -- ---- and what is called for is said

  line_given : {k : ℕ} → Without 10 s → LineCallsFor past n s k → SaysNot (line_says past n s) k n
  unfolding line_says cpus_line group_line task_line alpha_line use_line
  line_given w (LineCallsFor.bad_form h d i g j) =
      let x = failing is_cpus_test (and_true (form (bytes "cpus") 2 s) (eqb n 1)) (λ f. h (eqb-true n 1 f.1) _ (form_line "cpus" 1 s w f.0)) in
      let u = failing is_group group_parts (λ f. d f.1 f.2 _ _ (form_line "group" 2 s w f.0)) in
      let y = failing is_task_test (and_true (form (bytes "task") 4 s) (ltb 1 n)) (λ f. i (ltb-true 1 n f.1) _ _ _ (form_line "task" 3 s w f.0)) in
      let z = failing is_use_test (and_true (form (bytes "use") 5 s) (ltb 0 past.tasks)) (λ f. j (ltb-true 0 _ f.1) _ _ _ _ (form_line "use" 4 s w f.0)) in
      let v = failing is_alpha_test (and_true (form (bytes "alpha") 2 s) past.fresh) (λ f. g f.1 _ (form_line "alpha" 1 s w f.0)) in
      rw (x, u, y, v, z) (_, refl, record { number = refl; place = refl })
  line_given w (LineCallsFor.of_cpus {m} e l c) =
      let o = (line_fields cpus_word l).1 in
      rw (cpus_form e l, o) (given_not _ _ (cpus_given n (rw o at (others_alone s 0)) c))
  line_given w (LineCallsFor.of_group {g} {k} h e l x) =
      let o = (line_fields group_word l).1 in
      let f : is_cpus_test ≡ false = rw (ne_eqb n 1 (λ e. omega arith), and-false) in
      rw (f, group_form h e l, o) (given_not _ _ (group_given past n (rw o at (others_alone s 0)) (rw o at (others_alone s 1)) x))
  line_given w (LineCallsFor.of_task {t} {c} {d} h l x) =
      let o = (line_fields task_word l).1 in
      let f : is_cpus_test ≡ false = rw (ne_eqb n 1 (λ e. omega arith), and-false) in
      let j = form_other (bytes "task") (bytes "group") 4 3 s (line_form task_word l) refl in
      rw (f, j, task_form h l, o) (given_not _ _ (task_given past n (rw o at (others_alone s 0)) (rw o at (others_alone s 1)) (rw o at (others_alone s 2)) x))
  line_given w (LineCallsFor.of_alpha {a} e l x) =
      let o = line_fields alpha_word l in
      let u : form (bytes "alpha") 2 s ≡ true = line_form alpha_word l in
      let f : form (bytes "cpus") 2 s ≡ false = rw (o.0, and-false) in
      let g = form_other (bytes "alpha") (bytes "task") 2 4 s u refl in
      let j = form_other (bytes "alpha") (bytes "group") 2 3 s u refl in
      rw (f, j, g, alpha_form e l, o.1) (given_not _ _ (alpha_given past n (rw o.1 at (others_alone s 0)) x))
  line_given w (LineCallsFor.of_use {k} {r} {c} {ct} h l x) =
      let o = (line_fields use_word l).1 in
      let u : form (bytes "use") 5 s ≡ true = line_form use_word l in
      let f = form_other (bytes "use") (bytes "cpus") 5 2 s u refl in
      let g = form_other (bytes "use") (bytes "task") 5 4 s u refl in
      let v = form_other (bytes "use") (bytes "alpha") 5 2 s u refl in
      let j = form_other (bytes "use") (bytes "group") 5 3 s u refl in
      rw (f, j, g, v, use_form h l, o)
      (given_not _ _ (use_given past n (rw o at (others_alone s 0)) (rw o at (others_alone s 1)) (rw o at (others_alone s 2)) (rw o at (others_alone s 3)) x))

pub line_refused : LineRefused
line_refused past n s number place w = (line_calls past n s number place w, λ x. rw x.1 (line_given past n s w x.0))
