-- An output that is filled from the front, writer by writer.
--     written_all                              a text that fits is written, and the answer is its length
--     filled_text, filled_done                 from a writer's contract to `Filled`, and back
--     filled_again, filled_over                filled in two goes
--     text_within                              what a writer answers is within the output
--     Upto, upto_of, -first, -more, -in, -room, -done     an output that is filled up to a place with a bound, part by part
-- Assumes nothing.
use Prim.Native.Nat.{ℕ, ◌+◌, ◌-◌, ◌≤◌}
use mathlib.Core.Path.{◌≡◌, refl, sym, ap, ◌∙◌}
use mathlib.Core.List.{List, ◌++◌}
use native.Mathlib.Omega.{arith}
use borrow.Author.Tests.{le-leb}
use lib.ListN.{length, drop, length-append}
use lib.Seq.{drop-drop, drop_at}
use Rattle.basics.specs.Text.{put_into}
use Rattle.basics.proofs.FillLaws.{rest_at, back_at, rest_length, Filled, filled_part}
use Rattle.std.specs.Prelude.{Option}
use Rattle.put.specs.Text.{put_answer, put_length}

-- ---- writers

pub written_all : (t o : List ℕ) {o₁ : List ℕ} {p : Option ℕ} {r : ℕ} → length t ≤ length o → r ≡ put_length p → p ≡ put_answer t o → o₁ ≡ put_into t o
    → (r ≡ length t) × (o₁ ≡ t ++ drop r o)
written_all t o {o₁} {p} {r} h n a w =
    let l = le-leb (length t) (length o) h in
    let e : r ≡ length t = rw (n, a, l) in
    (e, rw (w, l, e))

pub filled_text : {o o₁ : List ℕ} {a : ℕ} (t : List ℕ) → length o₁ ≡ length o → (a ≡ length t) × (o₁ ≡ t ++ drop a o) → Filled o o₁ t a
filled_text t k e = record { holds = e.1; long = sym e.0; kept = k }

pub filled_done : {o o₁ p : List ℕ} {a : ℕ} (t : List ℕ) → p ≡ t → Filled o o₁ p a → (a ≡ length t) × (o₁ ≡ t ++ drop a o)
filled_done t e f = (sym f.long ∙ ap length e, rw (← e) f.holds)

pub text_within : {o₁ : List ℕ} {a : ℕ} (t o : List ℕ) → a ≡ length t → o₁ ≡ t ++ drop a o → a ≤ length o₁
text_within {o₁} {a} t o n e = omega (arith, ap length e, length-append t (drop a o))

-- past its filling an output is as it was
filled_rest : {o o₁ p : List ℕ} {a : ℕ} → Filled o o₁ p a → drop a o₁ ≡ drop a o
filled_rest {o} {o₁} {p} {a} f = ap (drop a) f.holds ∙ drop_at p (drop a o) a f.long

-- an output that is filled can be taken for one that is filled from itself, and filled on
pub filled_again : {o o₁ p : List ℕ} {a : ℕ} → Filled o o₁ p a → Filled o₁ o₁ p a
filled_again f = record { holds = rw (filled_rest f) f.holds; long = f.long; kept = refl }

pub filled_over : {o o₁ o₂ p t : List ℕ} {a b : ℕ} → Filled o o₁ p a → Filled o₁ o₂ t b → a ≤ b → Filled o o₂ t b
filled_over {o} {o₁} {a = a} {b} f g h =
    let s : b ≡ a + (b - a) = omega arith in
    let d : drop b o₁ ≡ drop b o = rw (s, ← drop-drop (b - a) a o₁, ← drop-drop (b - a) a o, filled_rest f) in
    record { holds = rw (← d) g.holds; long = g.long; kept = g.kept ∙ f.kept }

-- ---- an output o that is filled up to a place, which is at most m

pub record Upto (o : List ℕ) (m : ℕ) : Type 0 where
  pub out : List ℕ
  pub text : List ℕ
  pub at : ℕ
  pub filled : Filled o out text at
  pub few : at ≤ m

abbrev pub upto_of : {o o₁ p : List ℕ} {a : ℕ} → Filled o o₁ p a → {m : ℕ} → length p ≤ m → Upto o m
upto_of {o} {o₁} {p} {a} f h = record { out = o₁; text = p; at = a; filled = f; few = omega (arith, f.long) }

-- a text is put at the start
abbrev pub upto_first : {o o₁ : List ℕ} {a : ℕ} (t : List ℕ) → length o₁ ≡ length o → (a ≡ length t) × (o₁ ≡ t ++ drop a o)
    → {m : ℕ} → length t ≤ m → Upto o m
upto_first t k e h = upto_of (filled_text t k e) h

-- the rest is lent to a writer of t
abbrev pub upto_more : {o : List ℕ} {m : ℕ} (u : Upto o m) (t : List ℕ) {ys : List ℕ} {k : ℕ} → length ys ≡ length (rest_at u.out u.at)
    → (k ≡ length t) × (ys ≡ t ++ drop k (rest_at u.out u.at)) → m ≤ length o → {m₁ : ℕ} → m + length t ≤ m₁ → Upto o m₁
upto_more u t {ys} {k} l e h g =
    record {
      out = back_at u.out u.at ys;
      text = u.text ++ t;
      at = u.at + k;
      filled = filled_part u.filled t (omega arith) e.0 l e.1;
      few = omega arith;
    }

-- the place is in the output, and there is room for k bytes from it on
pub upto_in : {o : List ℕ} {m : ℕ} (u : Upto o m) → m ≤ length o → u.at ≤ length u.out
upto_in u h = omega (arith, u.filled.kept, u.few)

pub upto_room : {o : List ℕ} {m : ℕ} (k : ℕ) (u : Upto o m) → m + k ≤ length o → k ≤ length (rest_at u.out u.at)
upto_room k u h = omega (arith, rest_length u.out u.at, u.filled.kept, u.few)

pub upto_done : {o : List ℕ} {m : ℕ} (t : List ℕ) (u : Upto o m) → u.text ≡ t → (u.at ≡ length t) × (u.out ≡ t ++ drop u.at o)
upto_done t u e = filled_done t e u.filled
