-- An output that is filled part by part: the laws that every writer uses.
-- Assumes nothing.
use Prim.Native.Nat.{ℕ, suc, ◌+◌, ◌-◌, ◌≤◌, ◌<◌}
use mathlib.Core.Path.{◌≡◌, refl, sym, ap, ◌∙◌}
use mathlib.Core.List.{List, [], ◌∷◌, ◌++◌, append_assoc, append-nil}
use native.Mathlib.Omega.{arith}
use native.Mathlib.Numerals.{add-one}
use lib.ListN.{length, get_or, set, take, drop, length-append, length-drop, length-set, drop_of_length-le}
use lib.Seq.{drop-cons, drop-drop, take_at, drop_at, set_at, take_all, take-suc, append_snoc, length-take-le}
use borrow.Author.Tests.{le-leb, lt-leb}
use Rattle.basics.specs.Text.{put_into}

-- ---- the part `&mut o[a..]`, lent and taken back

-- what is lent of o from a on
abbrev pub rest_at : List ℕ → ℕ → List ℕ
rest_at o a = take (length o - a) (drop a o)

-- what o is once the rest has come back as ys
abbrev pub back_at : List ℕ → ℕ → List ℕ → List ℕ
back_at o a ys = take a o ++ (ys ++ drop (length o - a) (drop a o))

pub whole_part : (o : List ℕ) (a : ℕ) → rest_at o a ≡ drop a o
whole_part o a = take_all (length o - a) (drop a o) (omega (arith, length-drop a o))

pub rest_length : (o : List ℕ) (a : ℕ) → length (rest_at o a) ≡ length o - a
rest_length o a = ap length (whole_part o a) ∙ length-drop a o

pub back_plain : (o ys : List ℕ) (a : ℕ) → back_at o a ys ≡ take a o ++ ys
back_plain o ys a = rw (drop_of_length-le (drop a o) {i = length o - a} (omega (arith, length-drop a o)), append-nil)

pub back_length : (o ys : List ℕ) (a : ℕ) → a ≤ length o → length ys ≡ length (rest_at o a) → length (back_at o a ys) ≡ length o
back_length o ys a h e =
    ap length (back_plain o ys a) ∙ omega (arith, length-append (take a o) ys, e, length-take-le a o h, rest_length o a)

-- ---- the output o, filled with p up to a, is o₁

pub record Filled (o o₁ p : List ℕ) (a : ℕ) : Type 0 where
  pub holds : o₁ ≡ p ++ drop a o
  pub long : length p ≡ a
  pub kept : length o₁ ≡ length o

pub filled_none : (o : List ℕ) → Filled o o [] 0
filled_none o = record { holds = refl; long = refl; kept = refl }

-- bytes s, which are p, are put at the start
pub filled_bytes : {o o₁ s p : List ℕ} {a : ℕ} → s ≡ p → a ≡ length p → length o₁ ≡ length o → o₁ ≡ s ++ drop (length s) o → Filled o o₁ p a
filled_bytes e n k h = record { holds = h ∙ rw (e, n); long = sym n; kept = k }

-- the rest is lent to a writer of t
pub filled_part : {o o₁ p : List ℕ} {a : ℕ} → Filled o o₁ p a → (t : List ℕ) {ys : List ℕ} {k : ℕ} → a ≤ length o → k ≡ length t
    → length ys ≡ length (rest_at o₁ a) → ys ≡ t ++ drop k (rest_at o₁ a) → Filled o (back_at o₁ a ys) (p ++ t) (a + k)
filled_part {o} {o₁} {p} {a} f t {ys} {k} h n l q =
    let d : rest_at o₁ a ≡ drop a o = whole_part o₁ a ∙ ap (drop a) f.holds ∙ drop_at p (drop a o) a f.long in
    let u : take a o₁ ≡ p = ap (take a) f.holds ∙ take_at p (drop a o) a f.long in
    let r : ys ≡ t ++ drop (a + k) o = q ∙ ap (λ (x : List ℕ). t ++ drop k x) d ∙ ap (λ (x : List ℕ). t ++ x) (drop-drop k a o) in
    record {
      holds = back_plain o₁ ys a ∙ rw (u, r) (sym (append_assoc p t (drop (a + k) o)));
      long = length-append p t ∙ omega (arith, f.long);
      kept = back_length o₁ ys a (omega (arith, f.kept)) l ∙ f.kept;
    }

-- one byte more
pub filled_byte : {o o₁ p : List ℕ} {a : ℕ} → Filled o o₁ p a → (b : ℕ) → a < length o → Filled o (set o₁ a b) (p ++ (b ∷ [])) (a + 1)
filled_byte {o} {o₁} {p} {a} f b h =
    record {
      holds = rw (f.holds, drop-cons o a 0 h, set_at p (get_or o a 0) (drop (suc a) o) b a f.long, add-one a, append_snoc);
      long = length-append p (b ∷ []) ∙ omega (arith, f.long);
      kept = length-set o₁ a b ∙ f.kept;
    }

-- one more byte of s
pub filled_copy : {o o₁ : List ℕ} {a : ℕ} (s : List ℕ) → Filled o o₁ (take a s) a → a < length s → length s ≤ length o
    → Filled o (set o₁ a (get_or s a 0)) (take (a + 1) s) (a + 1)
filled_copy {o} {o₁} {a} s f h l = rw (add-one a, take-suc s a 0 h, ← add-one a) (filled_byte f (get_or s a 0) (omega arith))

-- all of s
pub filled_copied : {o o₁ : List ℕ} {a : ℕ} (s : List ℕ) → Filled o o₁ (take a s) a → length s ≤ a → o₁ ≡ s ++ drop (length s) o
filled_copied {o} {o₁} {a} s f h =
    let t = take_all a s h in
    let e : a ≡ length s = sym f.long ∙ ap length t in
    f.holds ∙ rw (t, e)

-- ---- the whole text or nothing

pub put_none : (t o : List ℕ) → length o < length t → o ≡ put_into t o
put_none t o h = rw (lt-leb (length t) (length o) h)

pub put_all : (t o : List ℕ) → length t ≤ length o → {o₁ : List ℕ} → o₁ ≡ t ++ drop (length t) o → o₁ ≡ put_into t o
put_all t o h q = rw (le-leb (length t) (length o) h) q
