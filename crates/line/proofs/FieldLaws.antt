-- The fields of a line: where each begins, and that the number read at that place is the number of that field.
-- Assumes nothing.
use Prim.Native.Nat.{ℕ, suc, ◌+◌, ◌*◌, ◌≤◌}
use mathlib.Core.Path.{◌≡◌, refl, sym, ap, ◌∙◌}
use mathlib.Core.Bool.{Bool, true, false, false≢true}
use mathlib.Core.List.{List, [], ◌∷◌}
use native.Mathlib.Omega.{arith}
use native.Mathlib.Nat.{zero-add}
use lib.ListN.{length, get_or, drop}
use lib.Seq.{drop-cons, drop-drop}
use lib.Dec.{eqb}
use borrow.Author.Tests.{eqb-true}
use denote.Param.Members.{Shared}
use Rattle.std.specs.Fn.{FnReturnsAt}
use denote.Ref.{Bor}
use Rattle.std.specs.Prelude.{Option, Some, None, Ok, Err}
use Rattle.table.specs.declared.Refusal.{Refusal}
use Rattle.table.specs.declared.Fault.TheVariants.{BadField}
use Rattle.basics.specs.Choice.{pick}
use Rattle.basics.proofs.ChoiceLaws.{and_true}
use Rattle.field.specs.declared.Field.{Field}
use Rattle.field.specs.declared.Rounding.{Rounding}
use Rattle.field.specs.Number.{reads_as, apart, first, time_field, count_field}
use Rattle.field.proofs.FirstField.{time_first, count_first}
use Rattle.field.proofs.ReadAs.{time_width, count_width}
use Rattle.line.specs.Fields.{others, fields, filled, field_count, same, form}
use Rattle.line.specs.Places.{placed}

-- ---- a line's form

same_eq : (xs ys : List ℕ) → same xs ys ≡ true → xs ≡ ys
same_eq [] [] e = refl
same_eq [] (y ∷ ys) e = absurd (false≢true e)
same_eq (x ∷ xs) [] e = absurd (false≢true e)
same_eq (x ∷ xs) (y ∷ ys) e =
    let p = and_true (eqb x y) (same xs ys) e in
    let h = eqb-true x y p.0 in
    let t = same_eq xs ys p.1 in
    cc

pub form_fields : (w : List ℕ) (k : ℕ) (s : List ℕ) → form w (suc k) s ≡ true → (length (fields s) ≡ suc k) × (first s ≡ w)
unfolding field_count
form_fields w k s e =
    let p = and_true (eqb (field_count s) (suc k)) (same (first s) w) e in
    (go (filled (fields s)) (eqb-true (field_count s) (suc k) p.0), same_eq (first s) w p.1)
  where
    go : (b : Bool) → pick b (length (fields s)) 0 ≡ suc k → length (fields s) ≡ suc k
    go true q = q
    go false q = absurd (omega arith)

-- ---- from one field to the next

-- past the first field and the byte after it stand the others
past_first : (s w : List ℕ) (ws : List (List ℕ)) → others s ≡ w ∷ ws → fields (drop (suc (length (first s))) s) ≡ others s
past_first [] w ws e = let z : ◌≡◌ {A = ℕ} 0 1 = cc in absurd (omega arith)
past_first (b ∷ s) w ws e = go (apart b) e (past_first s w ws)
  where
    go : (u : Bool) → pick u (first s ∷ others s) (others s) ≡ w ∷ ws
        → (others s ≡ w ∷ ws → fields (drop (suc (length (first s))) s) ≡ others s)
        → fields (drop (suc (length (pick u [] (b ∷ first s)))) (b ∷ s)) ≡ pick u (first s ∷ others s) (others s)
    go true q ih = refl
    go false q ih = ih q

-- field k of s begins at place p, and m more follow it; each field before it has at most 12 bytes
pub record Begins (s : List ℕ) (k m p : ℕ) : Type 0 where
  pub place : fields (drop p s) ≡ drop k (fields s)
  pub many : length (fields s) ≡ suc (k + m)
  pub near : p ≤ 13 * k

pub here : (s : List ℕ) (k m p : ℕ) → Begins s k m p → first (drop p s) ≡ get_or (fields s) k []
here s k m p b = let d = b.place ∙ drop-cons (fields s) k [] (omega arith) in cc

pub next : (s : List ℕ) (k m p n : ℕ) → Begins s k (suc m) p → (n ≡ length (first (drop p s))) × (n ≤ 12) → Begins s (suc k) m (p + n + 1)
next s k m p n b w =
    let d = b.place ∙ drop-cons (fields s) k [] (omega arith) in
    let o : others (drop p s) ≡ drop (suc k) (fields s) = cc in
    let a = past_first (drop p s) (get_or (fields s) (suc k) []) (drop (suc (suc k)) (fields s)) (o ∙ drop-cons (fields s) (suc k) [] (omega arith)) in
    let q : p + n + 1 ≡ p + suc (length (first (drop p s))) = omega arith in
    record {
      place = rw (q, ← drop-drop (suc (length (first (drop p s)))) p s) (a ∙ o);
      many = omega arith;
      near = omega arith;
    }

-- after the word, the second field of a line of this form
pub form_second : (w : List ℕ) (m : ℕ) (s : List ℕ) → length w ≤ 12 → form w (suc (suc m)) s ≡ true → Begins s 1 m (length w + 1)
form_second w m s l e =
    let f = form_fields w (suc m) s e in
    let b : Begins s 0 (suc m) 0 = record { place = refl; many = omega arith; near = omega arith } in
    rw zero-add at (next s 0 m 0 (length w) b (ap length (sym f.1), l))

-- ---- the number of a field

-- a reader reads a number off the field alone, and as wide as the field
pub record Reader (read : List ℕ → Option Field) : Type 0 where
  pub alone : (s : List ℕ) → read (first s) ≡ read s
  pub wide : (s : List ℕ) (v n : ℕ) → read s ≡ reads_as v n → (n ≡ length (first s)) × (n ≤ 12)

pub counts : Reader count_field
counts = record { alone = count_first; wide = λ s v n e. let w = count_width s v n e in omega arith }

pub times : (way : Rounding) → Reader (time_field way)
times way = record { alone = time_first way; wide = time_width way }

-- field k of s states v
pub record States (read : List ℕ → Option Field) (s : List ℕ) (k v : ℕ) : Type 0 where
  pub width : ℕ
  pub says : read (get_or (fields s) k []) ≡ reads_as v width

placed_bad : (n p : ℕ) (x : Option Field) (r : Refusal) → Err r ≡ placed n p x → (x ≡ None) × (r ≡ record { fault = BadField; place = n })
placed_bad n p (Some f) r e = let z : ◌≡◌ {A = ℕ} 0 1 = cc in absurd (omega arith)
placed_bad n p None r e = (refl, cc)

placed_value : (n p : ℕ) (x : Option Field) (v q : ℕ) → Ok (v, q) ≡ placed n p x → (w : ℕ) × ((x ≡ reads_as v w) × (q ≡ p + w + 1))
placed_value n p (Some x) v q e =
    let f : (x.value, p + x.width + 1) ≡ (v, q) = cc in
    (x.width, (ap (λ (t : ℕ × ℕ). reads_as t.0 x.width) f, sym (ap (λ (t : ℕ × ℕ). t.1) f)))
placed_value n p None v q e = let z : ◌≡◌ {A = ℕ} 0 1 = cc in absurd (omega arith)

-- what `field_at`, given a function that reads so, answers to the place of field k: the function's answer x, and what is made of it
module _ {read : List ℕ → Option Field} (reader : Reader read) {F : Type 0} {g : Shared F (Bor (List ℕ) × Unit {0}) (Option Field)} {f : F} {s : List ℕ} {k p : ℕ} where
  -- the function's answer is that of the field alone
  at_field : {m : ℕ} {x : Option Field} → Begins s k m p → (r : FnReturnsAt g f (drop p s) x) → x ≡ read r.shown.now → x ≡ read (get_or (fields s) k [])
  at_field {m} b r e = e ∙ ap read r.shows ∙ sym (reader.alone (drop p s)) ∙ ap read (here s k m p b)

  pub bad_field : {m : ℕ} {r : Refusal} (n : ℕ) → Begins s k m p → (a : (x : Option Field) × FnReturnsAt g f (drop p s) x × (Err r ≡ placed n p x)) → a.0 ≡ read a.1.shown.now
      → (read (get_or (fields s) k []) ≡ None) × (r ≡ record { fault = BadField; place = n })
  bad_field {r = r} n b a e = let x = placed_bad n p a.0 r a.2 in (sym (at_field b a.1 e) ∙ x.0, x.1)

  pub states : {m v q : ℕ} (n : ℕ) → Begins s k m p → (a : (x : Option Field) × FnReturnsAt g f (drop p s) x × (Ok (v, q) ≡ placed n p x)) → a.0 ≡ read a.1.shown.now → States read s k v
  states {v = v} {q = q} n b a e =
      let x = placed_value n p a.0 v q a.2 in
      record { width = x.0; says = sym (at_field b a.1 e) ∙ x.1.0 }

  pub steps : {m v q : ℕ} (n : ℕ) → Begins s k (suc m) p → (a : (x : Option Field) × FnReturnsAt g f (drop p s) x × (Ok (v, q) ≡ placed n p x)) → a.0 ≡ read a.1.shown.now
      → States read s k v × Begins s (suc k) m q
  steps {m} {v} {q} n b a e =
      let x = placed_value n p a.0 v q a.2 in
      let w = reader.wide (drop p s) v x.0 (sym (e ∙ ap read a.1.shows) ∙ x.1.0) in
      (states n b a e, rw x.1.1 (next s k m p x.0 b w))
