-- The laws of the parts joined, over the indices below n.
-- Assumes nothing.
use Prim.Native.Nat.{ℕ, zero, suc, ◌+◌, ◌*◌, ◌≤◌, ◌<◌}
use mathlib.Core.Path.{◌≡◌, refl, sym, ap, ◌∙◌}
use mathlib.Core.List.{List, [], ◌++◌, append_assoc, append-nil}
use native.Mathlib.Nat.{le_refl, not-suc-le-zero, mul-le-mul_left}
use native.Mathlib.Decide.{ℕ_discrete}
use native.Mathlib.Numerals.{add-one}
use native.Mathlib.Omega.{arith}
use borrow.Author.Tests.{le-leb, lt-leb, lt-ltb, le-ltb}
use lib.Dec.{leb, ltb, leb-zero}
use lib.ListN.{length, get_or, length-append, get_or-append}
use lib.Seq.{get_or-append-add}
use Rattle.basics.specs.Choice.{pick}
use Rattle.basics.specs.Over.{sum_to, join_to}
use Rattle.basics.proofs.SumLaws.{sum_more, sum_rises, sum_bound}

module _ {A : Type 0} where
  pub join_none : (f : ℕ → List A) → join_to 0 f ≡ []
  unfolding join_to
  join_none f = refl

  pub join_more : (i : ℕ) (f : ℕ → List A) → join_to (i + 1) f ≡ join_to i f ++ f i
  unfolding join_to
  join_more i f = rw add-one

  pub join_length : (n : ℕ) (f : ℕ → List A) → length (join_to n f) ≡ sum_to n (λ k. length (f k))
  unfolding join_to sum_to
  join_length zero f = refl
  join_length (suc n) f = omega (arith, length-append (join_to n f) (f n), join_length n f)

  -- there is room for one more
  pub join_room : (n k : ℕ) (f : ℕ → List A) → k < n → length (join_to k f) + length (f k) ≤ length (join_to n f)
  join_room n k f h =
      let g : ℕ → ℕ = λ i. length (f i) in
      omega (arith, join_length k f, join_length n f, sum_more k g, sum_rises (k + 1) n g (omega arith))

  pub join_eq : (n : ℕ) (f g : ℕ → List A) → ((k : ℕ) → k < n → f k ≡ g k) → join_to n f ≡ join_to n g
  unfolding join_to
  join_eq zero f g eq = refl
  join_eq (suc n) f g eq = rw (join_eq n f g (λ k l. eq k (omega arith)), eq n (le_refl (suc n)))

  pub join_bound : (n b : ℕ) (f : ℕ → List A) → ((k : ℕ) → k < n → length (f k) ≤ b) → length (join_to n f) ≤ n * b
  join_bound n b f le = rw join_length (sum_bound n b (λ k. length (f k)) le)

  -- parts of one length
  pub join_even : (n w : ℕ) (f : ℕ → List A) → ((k : ℕ) → k < n → length (f k) ≡ w) → length (join_to n f) ≡ w * n
  unfolding join_to
  join_even zero w f each = omega arith
  join_even (suc n) w f each =
      length-append (join_to n f) (f n) ∙ omega (arith, join_even n w f (λ k l. each k (omega arith)), each n (le_refl (suc n)))

  -- the element j of the part k
  pub join_at : (n w k j : ℕ) (f : ℕ → List A) (d : A) → ((k : ℕ) → k < n → length (f k) ≡ w) → k < n → j < w → get_or (join_to n f) (w * k + j) d ≡ get_or (f k) j d
  unfolding join_to
  join_at zero w k j f d each h l = absurd (not-suc-le-zero h)
  join_at (suc n) w k j f d each h l = go (ℕ_discrete k n) (λ m. join_at n w k j f d (λ i g. each i (omega arith)) m l)
    where
      long : length (join_to n f) ≡ w * n
      long = join_even n w f (λ i g. each i (omega arith))

      go : Dec (k ≡ n) → (k < n → get_or (join_to n f) (w * k + j) d ≡ get_or (f k) j d) → get_or (join_to n f ++ f n) (w * k + j) d ≡ get_or (f k) j d
      go (yes e) ih = rw (e, ← long) (get_or-append-add (join_to n f) (f n) j d)
      go (no e) ih =
          get_or-append (join_to n f) (f n) d (w * k + j) (omega (arith, long, mul-le-mul_left {m = k + 1} {n = n} w (omega arith)))
          ∙ ih (omega arith)

  -- what holds of the parts from k on, part by part from the last
  pub join_from : (P : ℕ → List A → Type 0) (n : ℕ) (f : ℕ → List A) → ((k : ℕ) (l : List A) → k < n → P (suc k) l → P k (f k ++ l)) → P n []
      → P 0 (join_to n f)
  unfolding join_to
  join_from P n f step end = rw append-nil at (go n step [] end)
    where
      go : (m : ℕ) → ((k : ℕ) (l : List A) → k < m → P (suc k) l → P k (f k ++ l)) → (l : List A) → P m l → P 0 (join_to m f ++ l)
      go zero step l p = p
      go (suc m) step l p = rw append_assoc (go m (λ k l h. step k l (omega arith)) (f m ++ l) (step m l (le_refl (suc m)) p))

  -- a function that goes part by part
  pub join_through : {B : Type 0} (h : List A → List B) → h [] ≡ [] → ((a b : List A) → h (a ++ b) ≡ h a ++ h b) → (n : ℕ) (f : ℕ → List A)
      → h (join_to n f) ≡ join_to n (λ k. h (f k))
  unfolding join_to
  join_through h nil parts zero f = nil
  join_through {B} h nil parts (suc n) f = parts (join_to n f) (f n) ∙ ap (λ (l : List B). l ++ h (f n)) (join_through h nil parts n f)

  -- ---- the parts from i on

  pub join_whole : (n : ℕ) (f : ℕ → List A) → join_to n (λ k. pick (leb 0 k) (f k) []) ≡ join_to n f
  join_whole n f = join_eq n _ _ (λ k h. rw (leb-zero k))

  pub join_past : (n i : ℕ) (f : ℕ → List A) → n ≤ i → join_to n (λ k. pick (leb i k) (f k) []) ≡ []
  unfolding join_to
  join_past zero i f h = refl
  join_past (suc n) i f h = rw (join_past n i f (omega arith), lt-leb i n h)

  pub join_rest : (n i : ℕ) (f : ℕ → List A) → i < n → join_to n (λ k. pick (leb i k) (f k) []) ≡ f i ++ join_to n (λ k. pick (ltb i k) (f k) [])
  unfolding join_to
  join_rest zero i f h = absurd (not-suc-le-zero h)
  join_rest (suc n) i f h = go (ℕ_discrete i n) (λ l. join_rest n i f l)
    where
      go : Dec (i ≡ n) → (i < n → join_to n (λ k. pick (leb i k) (f k) []) ≡ f i ++ join_to n (λ k. pick (ltb i k) (f k) []))
          → join_to n (λ k. pick (leb i k) (f k) []) ++ pick (leb i n) (f n) [] ≡ f i ++ (join_to n (λ k. pick (ltb i k) (f k) []) ++ pick (ltb i n) (f n) [])
      go (yes e) ih =
          rw (e, join_past n n f (le_refl n), le-leb n n (le_refl n), join_past n (suc n) f (omega arith), le-ltb n n (le_refl n)) (sym (append-nil (f n)))
      go (no e) ih = rw (ih (omega arith), le-leb i n (omega arith), lt-ltb i n (omega arith)) (append_assoc (f i) _ (f n))
