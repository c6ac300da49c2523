-- A text that is put at a place of an output.
--     filled_here, -within        an output is filled with itself up to any place; a filling is within it
--     filled_put, filled_field    the rest is lent to a writer, behind a space too
--     PutAt, put_is, filled_at    what is put at a place, and what that makes of an output that is filled up to it
--     at_short, at_filled         what a writer at a place answers
--     at_all                      and what its answer says to a caller that has the room
-- Assumes nothing.
use Prim.Native.Nat.{ℕ, ◌+◌, ◌≤◌, ◌<◌}
use mathlib.Core.Path.{◌≡◌, refl, sym, ap, ◌∙◌}
use mathlib.Core.List.{List, ◌∷◌, ◌++◌, append_assoc}
use native.Mathlib.Omega.{arith}
use lib.ListN.{length, set, take, drop, length-append, take-append-drop}
use lib.Seq.{take_at, drop_at, drop-drop, append_snoc, length-take-le}
use borrow.Author.Tests.{le-leb, lt-leb}
use Rattle.basics.specs.Text.{put_into}
use Rattle.basics.proofs.FillLaws.{rest_at, back_at, rest_length, Filled, filled_part, filled_byte}
use Rattle.std.specs.Prelude.{Option, Some, None}
use Rattle.put.specs.Text.{put_answer, put_answer_at, put_at, put_length}
use Rattle.put.proofs.OutputLaws.{written_all}

pub filled_here : (o : List ℕ) (a : ℕ) → a ≤ length o → Filled o o (take a o) a
filled_here o a h = record { holds = sym (take-append-drop a o); long = length-take-le a o h; kept = refl }

pub filled_within : {o o₁ p : List ℕ} {a : ℕ} → Filled o o₁ p a → a ≤ length o
filled_within {o} {o₁} {p} {a} f = omega (arith, f.long, f.kept, ap length f.holds, length-append p (drop a o))

-- the rest is lent to a writer of t, and has the room
pub filled_put : {o o₁ p : List ℕ} {a : ℕ} → Filled o o₁ p a → (t : List ℕ) {q : Option ℕ} {ys : List ℕ} {k : ℕ} → a + length t ≤ length o
    → q ≡ put_answer t (rest_at o₁ a) → k ≡ put_length q → length ys ≡ length (rest_at o₁ a) → ys ≡ put_into t (rest_at o₁ a)
    → Filled o (back_at o₁ a ys) (p ++ t) (a + k)
filled_put {o} {o₁} {p} {a} f t h e n l w =
    let g = written_all t (rest_at o₁ a) (omega (arith, rest_length o₁ a, f.kept)) n e w in
    filled_part f t (omega arith) g.0 l g.1

-- the same, behind a space at the place a
pub filled_field : (o : List ℕ) (a : ℕ) (t : List ℕ) {q : Option ℕ} {ys : List ℕ} {k : ℕ} → a + length t < length o
    → q ≡ put_answer t (rest_at (set o a 32) (a + 1)) → k ≡ put_length q → length ys ≡ length (rest_at (set o a 32) (a + 1))
    → ys ≡ put_into t (rest_at (set o a 32) (a + 1)) → Filled o (back_at (set o a 32) (a + 1) ys) (take a o ++ 32 ∷ t) (a + 1 + k)
filled_field o a t h e n l w =
    rw (← append_snoc) (filled_put (filled_byte (filled_here o a (omega arith)) 32 (omega arith)) t (omega arith) e n l w)

-- the output o, with t put at the place a, is o₁, and the place behind it is r
abbrev pub PutAt : (t : List ℕ) (a r : ℕ) (o o₁ : List ℕ) → Type 0
PutAt t a r o o₁ = (r ≡ a + length t) × (o₁ ≡ take a o ++ (t ++ drop r o))

pub put_is : {o o₁ : List ℕ} (a r : ℕ) (t : List ℕ) → a ≤ length o → Filled o o₁ (take a o ++ t) r → PutAt t a r o o₁
put_is {o} a r t h f =
    (omega (arith, f.long, length-append (take a o) t, length-take-le a o h), f.holds ∙ append_assoc (take a o) t (drop r o))

-- what that makes of an output that is filled up to a
pub filled_at : {o o₁ o₂ p : List ℕ} {a r : ℕ} → Filled o o₁ p a → (t : List ℕ) → length o₂ ≡ length o₁ → PutAt t a r o₁ o₂ → Filled o o₂ (p ++ t) r
filled_at {o} {o₁} {o₂} {p} {a} {r} f t l e =
    let u : take a o₁ ≡ p = ap (take a) f.holds ∙ take_at p (drop a o) a f.long in
    let d : drop a o₁ ≡ drop a o = ap (drop a) f.holds ∙ drop_at p (drop a o) a f.long in
    let v : drop r o₁ ≡ drop r o = rw (e.0, ← drop-drop (length t) a o₁, ← drop-drop (length t) a o, d) in
    record {
      holds = e.1 ∙ rw (u, v) (sym (append_assoc p t (drop r o)));
      long = length-append p t ∙ omega (arith, f.long, e.0);
      kept = l ∙ f.kept;
    }

-- ---- the writer's answer

module _ (t o : List ℕ) (a : ℕ) where
  pub at_short : length o < a + length t → (None ≡ put_answer_at t a o) × (o ≡ put_at t a o)
  at_short h = let l = lt-leb (a + length t) (length o) h in (rw l, rw l)

  pub at_filled : {o₁ : List ℕ} {r n : ℕ} → a ≤ length o → Filled o o₁ (take a o ++ t) r → n ≡ length t → (Some n ≡ put_answer_at t a o) × (o₁ ≡ put_at t a o)
  at_filled {o₁} {r} h f e =
      let p = put_is a r t h f in
      let l = le-leb (a + length t) (length o) (omega (arith, p.0, filled_within f)) in
      (rw (l, e), rw (l, ← p.0) p.1)

  pub at_all : {o₁ : List ℕ} {q : Option ℕ} {k : ℕ} → a + length t ≤ length o → k ≡ put_length q → (q ≡ put_answer_at t a o) × (o₁ ≡ put_at t a o)
      → PutAt t a (a + k) o o₁
  at_all {o₁} {q} {k} h n e =
      let l = le-leb (a + length t) (length o) h in
      let m : k ≡ length t = rw (n, e.0, l) in
      (rw m, rw (e.1, l, m))
