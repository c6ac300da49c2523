-- What a writer answers, and what its answer says to its caller.
-- Assumes nothing.
use Prim.Native.Nat.{ℕ, ◌+◌, ◌-◌, ◌≤◌, ◌<◌}
use mathlib.Core.Path.{◌≡◌, refl}
use mathlib.Core.Bool.{Bool, true, false}
use mathlib.Core.List.{List, ◌++◌}
use native.Mathlib.Omega.{arith}
use lib.ListN.{length, drop, length-append, length-drop}
use borrow.Rule.Slice.PartMut.{put_mid}
use lib.Dec.{leb}
use borrow.Author.Tests.{leb-false, le-leb, lt-leb}
use Rattle.basics.specs.Choice.{pick}
use Rattle.basics.specs.Text.{put_into}
use Rattle.basics.proofs.FillLaws.{rest_at, whole_part, rest_length, back_plain, Filled, filled_part, put_none, put_all}
use Rattle.std.specs.Prelude.{Some, None}
use Rattle.put.specs.Text.{put_answer}

-- ---- the answer

pub put_short : (t o : List ℕ) {n : ℕ} → n ≡ length t → length o < n → (None ≡ put_answer t o) × (o ≡ put_into t o)
put_short t o e h = let l : length o < length t = omega arith in (rw (lt-leb (length t) (length o) l), put_none t o l)

pub put_filled : {o o₁ t : List ℕ} {n : ℕ} → Filled o o₁ t n → n ≤ length o → (Some n ≡ put_answer t o) × (o₁ ≡ put_into t o)
put_filled {o} {o₁} {t} {n} f h =
    let l : length t ≤ length o = omega (arith, f.long) in
    (rw (le-leb (length t) (length o) l, f.long), put_all t o l (rw f.long f.holds))

-- ---- a part of an output is lent to a writer that fills it with t

pub filled_mid : {o o₁ p : List ℕ} {a n : ℕ} → Filled o o₁ p a → (t : List ℕ) {ys : List ℕ} → n ≡ a + length t → n ≤ length o → ys ≡ t
    → Filled o (put_mid a (n - a) o₁ ys) (p ++ t) n
filled_mid {o} {o₁} {p} {a} {n} f t {ys} e h q =
    let k : n - a ≡ length t = omega arith in
    let r = rest_at o₁ a in
    let l : length (t ++ drop (length t) r) ≡ length r = omega (arith, length-append t (drop (length t) r), length-drop (length t) r, rest_length o₁ a, f.kept) in
    rw (q, k, e, ← whole_part o₁ a, ← back_plain o₁ (t ++ drop (length t) r) a) (filled_part f t (omega arith) refl l refl)

-- what a writer's answer says to its caller
module _ (t o : List ℕ) {o₁ : List ℕ} where
  pub short_is : None ≡ put_answer t o → o₁ ≡ put_into t o → (length o < length t) × (o₁ ≡ o)
  short_is = go (leb (length t) (length o)) refl
    where
      go : (b : Bool) → leb (length t) (length o) ≡ b → None ≡ pick b (Some (length t)) None → o₁ ≡ pick b (t ++ drop (length t) o) o → (length o < length t) × (o₁ ≡ o)
      go true e a h = let z : ◌≡◌ {A = ℕ} 0 1 = cc in absurd (omega arith)
      go false e a h = (leb-false (length t) (length o) e, h)
