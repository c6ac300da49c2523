-- The laws of a row, by its places; and of a row whose first places are stored one by one.
-- Assumes nothing.
use Prim.Native.Nat.{ℕ, zero, suc, ◌+◌, ◌-◌, ◌≤◌, ◌<◌}
use mathlib.Core.Path.{◌≡◌, refl, sym, ap, subst, ◌∙◌}
use mathlib.Core.Bool.{Bool, true, false}
use mathlib.Core.List.{List, [], ◌∷◌, ◌++◌}
use native.Mathlib.Omega.{arith}
use native.Mathlib.Numerals.{add-one}
use native.Mathlib.Nat.{le_refl, not-suc-le-zero}
use native.Mathlib.Decide.{ℕ_discrete, dec_lt}
use borrow.Author.Tests.{leb-true, lt-ltb, le-ltb, le-leb, lt-leb}
use lib.ListN.{length, get_or, set, drop, replicate, length-append, length-drop, length-set, length-replicate, get_or-replicate, get_or-append}
use lib.Dec.{leb, ltb, leb-zero}
use lib.Seq.{get_or_at, get_or-append-add, get_or-drop, get_or-set_same, get_or-set_other, ext_get_or}
use Rattle.basics.specs.Choice.{pick}
use Rattle.basics.specs.Over.{join_to, row_to}
use Rattle.basics.proofs.JoinLaws.{join_eq}

module _ {A : Type 0} where
  pub row_length : (n : ℕ) (g : ℕ → A) → length (row_to n g) ≡ n
  unfolding join_to
  row_length zero g = refl
  row_length (suc n) g = omega (arith, length-append (row_to n g) (g n ∷ []), row_length n g)

  pub row_at : (n k : ℕ) (g : ℕ → A) (d : A) → k < n → get_or (row_to n g) k d ≡ g k
  unfolding join_to
  row_at zero k g d h = absurd (not-suc-le-zero h)
  row_at (suc n) k g d h = go (ℕ_discrete k n) (λ l. row_at n k g d l)
    where
      go : Dec (k ≡ n) → (k < n → get_or (row_to n g) k d ≡ g k) → get_or (row_to n g ++ (g n ∷ [])) k d ≡ g k
      go (yes e) ih = rw e (get_or_at (row_to n g) (g n) [] d n (row_length n g))
      go (no e) ih = get_or-append (row_to n g) (g n ∷ []) d k (omega (arith, row_length n g)) ∙ ih (omega arith)

  pub row_is : (n : ℕ) (g : ℕ → A) (d : A) (l : List A) → length l ≡ n → ((k : ℕ) → k < n → get_or l k d ≡ g k) → l ≡ row_to n g
  row_is n g d l e each =
      ext_get_or d l (row_to n g) (e ∙ sym (row_length n g)) (λ k h. each k (omega arith) ∙ sym (row_at n k g d (omega arith)))

  pub row_eq : (n : ℕ) (g h : ℕ → A) → ((k : ℕ) → k < n → g k ≡ h k) → row_to n g ≡ row_to n h
  row_eq n g h each = join_eq n _ _ (λ k l. ap (λ (x : A). x ∷ []) (each k l))

  -- ---- a row ys whose first i places hold g 0, .., g (i − 1)

  pub over_length : (g : ℕ → A) (i : ℕ) (ys : List A) → i ≤ length ys → length (row_to i g ++ drop i ys) ≡ length ys
  over_length g i ys l = length-append (row_to i g) (drop i ys) ∙ omega (arith, row_length i g, length-drop i ys)

  pub over_none : (g : ℕ → A) (ys : List A) → ys ≡ row_to 0 g ++ drop 0 ys
  unfolding join_to
  over_none g ys = refl

  -- a list without its first i, and without one more
  drop_one : (i : ℕ) (ys : List A) → drop 1 (drop i ys) ≡ drop (suc i) ys
  drop_one zero ys = refl
  drop_one (suc i) [] = refl
  drop_one (suc i) (y ∷ ys) = drop_one i ys

  -- a store right after `fs` makes `fs` longer by one
  set_after : (fs rs : List A) (x : A) → 0 < length rs → set (fs ++ rs) (length fs) x ≡ (fs ++ (x ∷ [])) ++ drop 1 rs
  set_after [] [] x l = absurd (not-suc-le-zero l)
  set_after [] (r ∷ rs) x l = refl
  set_after (f ∷ fs) rs x l = ap {B = List A} (λ (t : List A). f ∷ t) (set_after fs rs x l)

  row_grows : (g : ℕ → A) (i : ℕ) → row_to (suc i) g ≡ row_to i g ++ (g i ∷ [])
  unfolding join_to
  row_grows g i = refl

  -- the next one is stored
  pub over_more : (g : ℕ → A) (i : ℕ) (ys : List A) → i < length ys → set (row_to i g ++ drop i ys) i (g i) ≡ row_to (i + 1) g ++ drop (i + 1) ys
  over_more g i ys l =
      subst
      (λ (k : ℕ). set (row_to i g ++ drop i ys) k (g i) ≡ (row_to i g ++ (g i ∷ [])) ++ drop 1 (drop i ys))
      (row_length i g)
      (set_after (row_to i g) (drop i ys) (g i) (omega (arith, length-drop i ys)))
      ∙ (λ j. sym (row_grows g i) j ++ drop_one i ys j)
      ∙ ap (λ (k : ℕ). row_to k g ++ drop k ys) (sym (add-one i))

  -- the first n of a row of m that holds e
  pub over_same : (g : ℕ → A) (e : A) (n m : ℕ) → n ≤ m → row_to n g ++ drop n (replicate m e) ≡ row_to m (λ k. pick (ltb k n) (g k) e)
  over_same g e n m l = row_is m _ e _ (over_length g n _ (omega (arith, length-replicate m e)) ∙ length-replicate m e) (λ k h. go k h (dec_lt k n))
    where
      go : (k : ℕ) → k < m → Dec (k < n) → get_or (row_to n g ++ drop n (replicate m e)) k e ≡ pick (ltb k n) (g k) e
      go k h (yes d) = get_or-append (row_to n g) _ e k (omega (arith, row_length n g)) ∙ rw (lt-ltb k n d) (row_at n k g e d)
      go k h (no d) =
          let i : k ≡ length (row_to n g) + (k - n) = omega (arith, row_length n g) in
          let j : n + (k - n) ≡ k = omega arith in
          ap (λ (q : ℕ). get_or (row_to n g ++ drop n (replicate m e)) q e) i
          ∙ get_or-append-add (row_to n g) (drop n (replicate m e)) (k - n) e
          ∙ get_or-drop n (replicate m e) (k - n) e
          ∙ rw (j, le-ltb k n (omega arith)) (get_or-replicate m k e e h)

  -- ---- a row of m whose places from i on hold g i, .., g (m − 1), and e before them: stored one by one from the last

  pub back_none : (g : ℕ → A) (e : A) (m i : ℕ) → ((k : ℕ) → i ≤ k → g k ≡ e) → replicate m e ≡ row_to m (λ k. pick (leb i k) (g k) e)
  back_none g e m i past = row_is m _ e _ (length-replicate m e) (λ k h. get_or-replicate m k e e h ∙ sym (go k (leb i k) refl))
    where
      go : (k : ℕ) (b : Bool) → leb i k ≡ b → pick b (g k) e ≡ e
      go k true t = past k (leb-true i k t)
      go k false t = refl

  pub back_more : (g : ℕ → A) (e : A) (m i : ℕ) → i < m → set (row_to m (λ k. pick (ltb i k) (g k) e)) i (g i) ≡ row_to m (λ k. pick (leb i k) (g k) e)
  back_more g e m i l = row_is m _ e _ (length-set (row_to m row) i (g i) ∙ row_length m row) (λ k h. go k h (ℕ_discrete k i) (dec_lt i k))
    where
      row : ℕ → A
      row k = pick (ltb i k) (g k) e

      go : (k : ℕ) → k < m → Dec (k ≡ i) → Dec (i < k) → get_or (set (row_to m row) i (g i)) k e ≡ pick (leb i k) (g k) e
      go k h (yes q) d = rw (q, get_or-set_same (row_to m row) i (g i) e (omega (arith, row_length m row)), le-leb i i (le_refl i))
      go k h (no q) (yes d) = get_or-set_other (row_to m row) i k (g i) e q ∙ row_at m k row e h ∙ rw (lt-ltb i k d, le-leb i k (omega arith))
      go k h (no q) (no d) = get_or-set_other (row_to m row) i k (g i) e q ∙ row_at m k row e h ∙ rw (le-ltb i k (omega arith), lt-leb i k (omega arith))

  pub back_all : (g : ℕ → A) (e : A) (m : ℕ) → row_to m (λ k. pick (leb 0 k) (g k) e) ≡ row_to m g
  back_all g e m = row_eq m _ g (λ k h. rw (leb-zero k))
