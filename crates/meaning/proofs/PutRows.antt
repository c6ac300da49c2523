-- A row, stored entry by entry at K - 1, with K rising: it holds the entry of each K, and nothing where no entry has it.
-- Assumes nothing.
use Prim.Native.Nat.{ℕ, suc, ◌-◌, ◌≤◌, ◌<◌}
use mathlib.Core.Path.{◌≡◌, refl, sym, ap, ◌∙◌}
use mathlib.Core.Bool.{Bool, true, false}
use mathlib.Core.List.{List, [], ◌∷◌}
use native.Mathlib.Omega.{arith}
use native.Mathlib.Decide.{ℕ_discrete}
use lib.ListN.{length, get_or, set, replicate, length-set, get_or-replicate}
use lib.Seq.{get_or-set_same, get_or-set_other}
use lib.Dec.{eqb}
use borrow.Author.Tests.{eq-eqb, ne_eqb}
use Rattle.basics.specs.Choice.{pick}
use Rattle.basics.specs.Over.{row_to}
use Rattle.basics.proofs.RowLaws.{row_is}
use Rattle.table.specs.Limits.{max_resources}

-- what holds of both holds of the one that is chosen
pub picked : {A : Type 0} (P : A → Type 0) (b : Bool) {x y : A} → P x → P y → P (pick b x y)
picked P true p q = p
picked P false p q = q

module _ {F A : Type 0} (K : F → ℕ) (entry : F → A) (nothing : A) where
  -- K rises, from above `last` on
  pub data Rising : ℕ → List F → Type 0 where
    no_entry : {last : ℕ} → Rising last []
    one_entry : {last : ℕ} {x : F} {xs : List F} → last < K x → K x ≤ max_resources → Rising (K x) xs → Rising last (x ∷ xs)

  abbrev pub put : List A → List F → List A
  put row [] = row
  put row (x ∷ xs) = put (set row (K x - 1) (entry x)) xs

  -- the entry for resource k + 1
  abbrev pub entry_for : List F → ℕ → A
  entry_for [] k = nothing
  entry_for (x ∷ xs) k = pick (eqb (K x) (suc k)) (entry x) (entry_for xs k)

  put_length_reads : (row : List A) (xs : List F) → length (put row xs) ≡ length row
  put_length_reads row [] = refl
  put_length_reads row (x ∷ xs) = put_length_reads (set row (K x - 1) (entry x)) xs ∙ length-set row (K x - 1) (entry x)

  -- what stands below the entries to come stays
  put_low : {last : ℕ} {xs : List F} (row : List A) (k : ℕ) → Rising last xs → k < last → get_or (put row xs) k nothing ≡ get_or row k nothing
  put_low row k no_entry h = refl
  put_low row k (one_entry {x = x} a b r) h =
      put_low (set row (K x - 1) (entry x)) k r (omega arith) ∙ get_or-set_other row (K x - 1) k (entry x) nothing (λ q. omega arith)

  put_at_lem : {last : ℕ} {xs : List F} (row : List A) (k : ℕ) → Rising last xs → length row ≡ max_resources
      → get_or row k nothing ≡ nothing → get_or (put row xs) k nothing ≡ entry_for xs k
  put_at_lem row k no_entry l e = e
  put_at_lem row k (one_entry {x = x} {xs = xs} a b r) l e = go (ℕ_discrete (K x) (suc k)) (put_at_lem now k r (length-set row _ _ ∙ l))
    where
      now : List A
      now = set row (K x - 1) (entry x)

      go : Dec (K x ≡ suc k) → (get_or now k nothing ≡ nothing → get_or (put now xs) k nothing ≡ entry_for xs k)
          → get_or (put now xs) k nothing ≡ pick (eqb (K x) (suc k)) (entry x) (entry_for xs k)
      go (yes q) ih =
          let p : K x - 1 ≡ k = omega arith in
          rw (eq-eqb (K x) (suc k) q)
          (put_low now k r (omega arith) ∙ ap (λ (i : ℕ). get_or (set row i (entry x)) k nothing) p ∙ get_or-set_same row k (entry x) nothing (omega arith))
      go (no q) ih = rw (ne_eqb (K x) (suc k) q) (ih (get_or-set_other row (K x - 1) k (entry x) nothing (λ z. q (omega arith)) ∙ e))

  pub row_stored : {xs : List F} → Rising 0 xs → put (replicate max_resources nothing) xs ≡ row_to max_resources (entry_for xs)
  row_stored {xs} g =
      row_is max_resources (entry_for xs) nothing (put (replicate max_resources nothing) xs) (put_length_reads (replicate max_resources nothing) xs)
      (λ k h. put_at_lem (replicate max_resources nothing) k g refl (get_or-replicate max_resources k nothing nothing h))

  -- xs hold what the row g has from k on, and nothing below
  pub record Holds (k : ℕ) (xs : List F) (g : ℕ → A) : Type 0 where
    pub low : (j : ℕ) → j < k → entry_for xs j ≡ nothing
    pub at : (j : ℕ) → k ≤ j → j < max_resources → entry_for xs j ≡ g j

  pub holds_none : (g : ℕ → A) → Holds max_resources [] g
  holds_none g = record { low = λ j h. refl; at = λ j a b. absurd (omega arith) }

  module _ {k : ℕ} {xs : List F} {g : ℕ → A} (r : Holds (suc k) xs g) where
    -- where the row has nothing at k
    pub holds_skip : g k ≡ nothing → Holds k xs g
    holds_skip e = record { low = λ j h. r.low j (omega arith); at = λ j a b. go j a b (ℕ_discrete k j) }
      where
        go : (j : ℕ) → k ≤ j → j < max_resources → Dec (k ≡ j) → entry_for xs j ≡ g j
        go j a b (yes q) = r.low j (omega arith) ∙ sym (rw q at e)
        go j a b (no q) = r.at j (omega arith) b

    pub holds_more : (x : F) → K x ≡ suc k → entry x ≡ g k → Holds k (x ∷ xs) g
    holds_more x q e =
        record { low = λ j h. rw (ne_eqb (K x) (suc j) (λ z. omega arith)) (r.low j (omega arith)); at = λ j a b. go j a b (ℕ_discrete k j) }
      where
        go : (j : ℕ) → k ≤ j → j < max_resources → Dec (k ≡ j) → entry_for (x ∷ xs) j ≡ g j
        go j a b (yes z) = rw (eq-eqb (K x) (suc j) (omega arith)) (e ∙ ap g z)
        go j a b (no z) = rw (ne_eqb (K x) (suc j) (λ y. omega arith)) (r.at j (omega arith) b)
