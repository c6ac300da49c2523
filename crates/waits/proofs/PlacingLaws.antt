-- The pass that puts a number x in its place: what is left to do is to put y in its place among those from i on.
-- Assumes nothing.
use Prim.Native.Nat.{ℕ, zero, suc, ◌+◌, ◌-◌, ◌≤◌, ◌<◌, max, min}
use mathlib.Core.Path.{◌≡◌, refl, sym, ap, ◌∙◌}
use mathlib.Core.List.{List, [], ◌∷◌, ◌++◌}
use native.Mathlib.Nat.{le_refl, max-eq_right, min-eq_left}
use native.Mathlib.Numerals.{add-one}
use native.Mathlib.Omega.{arith}
use lib.ListN.{length, get_or, take, drop, set, length-take, length-set, drop_of_length-le}
use lib.Seq.{take_all, take_at, take-take, length-take-le, drop-cons, get_or-take, take-suc-set, take-set-lt, drop-set-lt, append_snoc}
use Rattle.basics.specs.Largest.{insert_into, EachAtMost, Descends}
use Rattle.basics.proofs.FallingLaws.{insert_length, insert_descends}
use Rattle.std.proofs.lemmas.List.{take-append-drop}
use Rattle.waits.specs.Kept.{max_kept, KeptRow, KeptWith}

-- ---- a number that is no larger than the last of a falling row stands behind it

at_most_at : (b i : ℕ) (S : List ℕ) → EachAtMost b S → get_or S i 0 ≤ b
at_most_at b i [] m = omega arith
at_most_at b zero (x ∷ S) m = m.0
at_most_at b (suc i) (x ∷ S) m = at_most_at b i S m.1

insert_behind : (x m : ℕ) (S : List ℕ) → Descends S → length S ≡ suc m → x ≤ get_or S m 0 → insert_into x S ≡ S ++ (x ∷ [])
insert_behind x m [] d e h = absurd (omega arith)
insert_behind x zero (y ∷ []) d e h = rw (max-eq_right h, min-eq_left h)
insert_behind x zero (y ∷ z ∷ S) d e h = absurd (omega arith)
insert_behind x (suc m) (y ∷ S) d e h =
    let l : x ≤ y = omega (arith, at_most_at y m S d.0) in
    rw (max-eq_right l, min-eq_left l) (ap {B = List ℕ} (λ (t : List ℕ). y ∷ t) (insert_behind x m S d.1 (omega arith) h))

-- where all places are taken, it goes at once
pub placed_none : {kept : List ℕ} {n : ℕ} (x : ℕ) → KeptRow kept n → n ≡ max_kept → x ≤ get_or kept (max_kept - 1) 0 → KeptWith (x ∷ []) kept n n kept
placed_none {kept} {n} x k e h =
    let f : length (take n kept) ≡ max_kept = length-take-le n kept (omega (arith, k.long)) ∙ e in
    let b = insert_behind x (max_kept - 1) (take n kept) k.falls f (rw (get_or-take n kept (max_kept - 1) 0 (omega arith)) h) in
    record { long = k.long; few = k.few; first = sym (ap (take max_kept) b ∙ take_at (take n kept) (x ∷ []) max_kept f) }

-- ---- a falling row falls without a number that was put in its place

drop_descends : (m : ℕ) (S : List ℕ) → Descends S → Descends (drop m S)
drop_descends zero S d = d
drop_descends (suc m) [] d = d
drop_descends (suc m) (x ∷ S) d = drop_descends m S d.1

without : (y : ℕ) (P S : List ℕ) → Descends S → Descends (P ++ insert_into y S) → Descends (P ++ S)
without y [] S e d = e
without y (p ∷ P) S e d = (each P d.0, without y P S e d.1)
  where
    behind : (b y : ℕ) (S : List ℕ) → EachAtMost b (insert_into y S) → EachAtMost b S
    behind b y [] m = tt
    behind b y (z ∷ S) m = (omega arith, behind b (min y z) S m.1)

    each : (P : List ℕ) → EachAtMost p (P ++ insert_into y S) → EachAtMost p (P ++ S)
    each [] m = behind p y S m
    each (q ∷ P) m = (m.0, each P m.1)

-- ---- the pass over the first n of a row that was kept₀

pub record Placing (kept₀ : List ℕ) (n₀ x : ℕ) (kept : List ℕ) (n i y : ℕ) : Type 0 where
  pub same : n ≡ n₀
  pub placing : take i kept ++ insert_into y (drop i (take n kept)) ≡ insert_into x (take n₀ kept₀)

module _ {kept₀ kept : List ℕ} {n₀ x n i y : ℕ} (was : KeptRow kept₀ n₀) (now : KeptRow kept n) (p : Placing kept₀ n₀ x kept n i y) where
  -- at i the larger stays, and the smaller goes on
  pub placing_more : (a b : ℕ) → i < n → a ≡ max y (get_or kept i 0) → b ≡ min y (get_or kept i 0) → Placing kept₀ n₀ x (set kept i a) n (i + 1) b
  placing_more a b h e f =
      record {
        same = p.same;
        placing =
            rw (add-one, take-suc-set kept i a (omega (arith, now.long, now.few)), take-set-lt n kept i a h, drop-set-lt (suc i) (take n kept) i a (le_refl (suc i)), append_snoc, e, f)
            (rw (drop-cons (take n kept) i 0 (omega (arith, length-take n kept, now.long, now.few)), get_or-take n kept i 0 h) at p.placing);
      }

  -- and the row falls all along
  pub placing_row : (a : ℕ) → i < n → a ≡ max y (get_or kept i 0) → KeptRow (set kept i a) n
  placing_row a h e =
      let K : List ℕ = set kept i a in
      let b : ℕ = min y (get_or kept i 0) in
      let all : Descends (take (i + 1) K ++ insert_into b (drop (i + 1) (take n K)))
      = rw ((placing_more a b h e refl).placing) (insert_descends x (take n₀ kept₀) was.falls) in
      let rest : Descends (drop (i + 1) (take n K))
      = rw (add-one, take-set-lt n kept i a h, drop-set-lt (suc i) (take n kept) i a (le_refl (suc i))) (drop_descends (suc i) (take n kept) now.falls) in
      let join : take (i + 1) K ++ drop (i + 1) (take n K) ≡ take n K
      = rw (← (take-take (i + 1) n K (omega arith))) (take-append-drop (i + 1) (take n K)) in
      record {
        long = simp length-set now.long;
        few = now.few;
        falls = rw (← join) (without b (take (i + 1) K) (drop (i + 1) (take n K)) rest all);
      }

  module _ (h : i ≤ n) (g : n ≤ i) where
    placing_end : take n kept ++ (y ∷ []) ≡ insert_into x (take n₀ kept₀)
    placing_end =
        let e : i ≡ n = omega arith in
        rw (e, drop_of_length-le (take n kept) {i = n} (omega (arith, length-take n kept))) at p.placing

    -- all places are taken, and y goes
    pub placed_full : n ≡ max_kept → KeptWith (x ∷ []) kept₀ n₀ n kept
    placed_full e =
        let t = take_at (take n kept) (y ∷ []) max_kept (length-take-le n kept (omega (arith, now.long, now.few)) ∙ e) in
        record { long = now.long; few = now.few; first = sym (ap (take max_kept) (sym placing_end) ∙ t) }

    -- there is a place left
    pub placed_room : n < max_kept → KeptWith (x ∷ []) kept₀ n₀ (n + 1) (set kept n y)
    placed_room e =
        let t = take_all max_kept (insert_into x (take n₀ kept₀)) (omega (arith, insert_length x (take n₀ kept₀), length-take n₀ kept₀, p.same)) in
        record {
          long = simp length-set now.long;
          few = omega arith;
          first = rw (add-one, take-suc-set kept n y (omega (arith, now.long)), placing_end) (sym t);
        }
