-- Laws of the text of a time.
-- Assumes nothing.
use Prim.Native.Nat.{ℕ, zero, suc, ◌+◌, ◌-◌, ◌*◌, ◌/◌, ◌%◌, ◌^◌, ◌≤◌, ◌<◌}
use mathlib.Core.Path.{◌≡◌, refl, ap, ◌∙◌}
use mathlib.Core.Bool.{Bool, true, false}
use mathlib.Core.List.{List, [], ◌∷◌, ◌++◌, append-nil}
use native.Mathlib.Omega.{arith}
use native.Mathlib.Nat.{pow-suc, pow-le-pow_right}
use lib.ListN.{length, length-append}
use lib.Dec.{eqb, lit≤, lit<}
use borrow.Author.Tests.{eqb-true, eqb-false, eq-eqb, ne_eqb}
use Rattle.basics.proofs.FillLaws.{Filled}
use Rattle.put.specs.Text.{digits_of, width, count_text, trim, pointed, time_text}
use Rattle.put.proofs.TextLaws.{width_few, digits_length, count_length}

-- ---- fractions

module _ (x : ℕ) where
  pub trim_three : (x % 10 ≡ 0 → ⊥) → trim (digits_of 3 x) ≡ digits_of 3 x
  trim_three h = rw (ne_eqb (48 + x % 10) 48 (λ q. h (omega arith)))

  pub trim_two : x % 10 ≡ 0 → (x % 100 ≡ 0 → ⊥) → trim (digits_of 3 x) ≡ digits_of 2 (x / 10)
  trim_two e h = rw (eq-eqb (48 + x % 10) 48 (omega arith), ne_eqb (48 + x / 10 % 10) 48 (λ q. h (omega arith)))

  pub trim_one : x % 100 ≡ 0 → (x ≡ 0 → ⊥) → x < 1000 → trim (digits_of 3 x) ≡ digits_of 1 (x / 100)
  trim_one e h l =
      let q : x / 10 / 10 % 10 ≡ x / 100 % 10 = omega arith in
      rw (eq-eqb (48 + x % 10) 48 (omega arith), eq-eqb (48 + x / 10 % 10) 48 (omega arith), q, ne_eqb (48 + x / 100 % 10) 48 (λ z. h (omega arith)))

-- what is left of a fraction's three digits: the last k digits of y, which is x without the zeros
pub record Trimmed (x k y : ℕ) : Type 0 where
  pub is : trim (digits_of 3 x) ≡ digits_of k y
  pub few : k ≤ 3
  pub small : y < 10 ^ k
  pub worth : x ≡ y * 10 ^ (3 - k)

pub trimmed : (x : ℕ) → x < 1000 → (k : ℕ) × (y : ℕ) × Trimmed x k y
trimmed x h = go (eqb x 0) (eqb (x % 100) 0) (eqb (x % 10) 0) refl refl refl
  where
    go : (t u v : Bool) → eqb x 0 ≡ t → eqb (x % 100) 0 ≡ u → eqb (x % 10) 0 ≡ v → (k : ℕ) × (y : ℕ) × Trimmed x k y
    go true u v p q r =
        let e = eqb-true x 0 p in
        (0, 0, record { is = rw e; few = lit≤ tt; small = omega arith; worth = omega arith })
    go false true v p q r =
        let e = eqb-true (x % 100) 0 q in
        (1, x / 100, record { is = trim_one x e (eqb-false x 0 p) h; few = lit≤ tt; small = omega arith; worth = omega arith })
    go false false true p q r =
        let e = eqb-true (x % 10) 0 r in
        (2, x / 10, record { is = trim_two x e (eqb-false (x % 100) 0 q); few = lit≤ tt; small = omega arith; worth = omega arith })
    go false false false p q r =
        (3, x, record { is = trim_three x (eqb-false (x % 10) 0 r); few = lit≤ tt; small = omega arith; worth = omega arith })

-- ---- what stands behind the whole part

abbrev pub fraction_text : ℕ → List ℕ
fraction_text x = pointed (trim (digits_of 3 x))

module _ (x k y : ℕ) (e : trim (digits_of 3 x) ≡ digits_of k y) where
  pub fraction_none : k ≡ 0 → fraction_text x ≡ []
  fraction_none z = rw (e, z)

  pub fraction_some : (k ≡ 0 → ⊥) → fraction_text x ≡ 46 ∷ digits_of k y
  fraction_some h = rw (e, full (digits_of k y) (omega (arith, digits_length k y)))
    where
      full : (ys : List ℕ) → 0 < length ys → pointed ys ≡ 46 ∷ ys
      full [] h = absurd (omega arith)
      full (y ∷ ys) h = refl

  pub fraction_length : (k ≡ 0 → ⊥) → k + 1 ≡ length (fraction_text x)
  fraction_length h = omega (arith, ap length (fraction_some h), digits_length k y)

fraction_most : (x : ℕ) → x < 1000 → length (fraction_text x) ≤ 4
fraction_most x h = let t = trimmed x h in go t.0 t.1 t.2
  where
    go : (k y : ℕ) → Trimmed x k y → length (fraction_text x) ≤ 4
    go zero y t = omega (arith, ap length (fraction_none x zero y t.is refl))
    go (suc k) y t = omega (arith, t.few, fraction_length x (suc k) y t.is (λ z. omega arith))

-- ---- times

module _ (us : ℕ) where
  time_parts : time_text us ≡ count_text (us / 1000) ++ fraction_text (us % 1000)
  unfolding time_text
  time_parts = refl

  pub time_plain : (k y : ℕ) → trim (digits_of 3 (us % 1000)) ≡ digits_of k y → k ≡ 0 → time_text us ≡ count_text (us / 1000)
  time_plain k y e z = time_parts ∙ rw (fraction_none (us % 1000) k y e z, append-nil)

  pub time_point : (k y : ℕ) → trim (digits_of 3 (us % 1000)) ≡ digits_of k y → (k ≡ 0 → ⊥) → time_text us ≡ count_text (us / 1000) ++ 46 ∷ digits_of k y
  time_point k y e h = time_parts ∙ rw (fraction_some (us % 1000) k y e h)

  pub parts_length : {w n : ℕ} → w ≡ width (us / 1000) → n ≡ length (fraction_text (us % 1000)) → w + n ≡ length (time_text us)
  parts_length p q =
      omega (arith, ap length time_parts, length-append (count_text (us / 1000)) (fraction_text (us % 1000)), count_length (us / 1000))

  pub parts_filled : {o o₁ : List ℕ} (w : ℕ) {n : ℕ} → n ≡ length (fraction_text (us % 1000))
      → Filled o o₁ (count_text (us / 1000) ++ fraction_text (us % 1000)) (w + length (fraction_text (us % 1000))) → Filled o o₁ (time_text us) (w + n)
  parts_filled w q f = rw (time_parts, q) f

  -- up to 10 ^ k milliseconds: 10 ^ k itself, which has a digit more, has no fraction
  pub time_few : (k : ℕ) → 1 ≤ k → us ≤ 10 ^ k * 1000 → length (time_text us) ≤ 4 + k
  time_few k l h = go (eqb us (10 ^ k * 1000)) refl
    where
      go : (b : Bool) → eqb us (10 ^ k * 1000) ≡ b → length (time_text us) ≤ 4 + k
      go true e =
          let q = eqb-true us (10 ^ k * 1000) e in
          let z : us % 1000 ≡ 0 = omega arith in
          omega (arith, parts_length refl refl, ap (λ (x : ℕ). length (fraction_text x)) z, width_few (us / 1000) (suc k) (omega arith) (omega (arith, pow-suc 10 k, pow-le-pow_right {n = 10} (lit< tt) {i = 1} {j = k} l)))
      go false e =
          let q = eqb-false us (10 ^ k * 1000) e in
          omega (arith, parts_length refl refl, fraction_most (us % 1000) (omega arith), width_few (us / 1000) k l (omega arith))

  pub time_length : us < 4_294_967_296 → length (time_text us) ≤ 11
  time_length h = time_few 7 (lit≤ tt) (omega arith)
