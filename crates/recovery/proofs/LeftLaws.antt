-- What becomes of a block, as a test and as a fact; which blocks are left.
-- Assumes nothing.
use Prim.Native.Nat.{ℕ, ◌+◌, ◌<◌}
use mathlib.Core.Path.{◌≡◌, refl, sym, ◌∙◌}
use mathlib.Core.Bool.{Bool, true, false, not, ◌&&◌}
use mathlib.Core.List.{List}
use borrow.Author.Tests.{ltb-true, lt-ltb, eqb-true, eq-eqb}
use lib.Dec.{leb, eqb}
use Rattle.basics.specs.Choice.{pick}
use Rattle.basics.specs.Over.{first_to}
use Rattle.basics.proofs.ChoiceLaws.{and_true}
use Rattle.basics.proofs.FirstIndexLaws.{first_is}
use Rattle.basics.proofs.RowLaws.{row_at}
use Rattle.block.specs.Numbers.{byte_at}
use Rattle.block.specs.Block.{head_in}
use Rattle.card.specs.Archive.{block_at, blocks_in}
use Rattle.release.specs.Refusals.{GoodBlock}
use Rattle.release.proofs.GoodLaws.{good_is, is_good}
use Rattle.table.proofs.Deciding.{fails, failing}
use Rattle.salvaging.specs.declared.Fate.{Fate}
use Rattle.salvaging.specs.declared.Fate.TheVariants.{Bad, Doubled, Kept, Moved}
use Rattle.salvaging.specs.Fates.{code_of, good_at, number_on, same_bytes, is_doubled, fate_at, code_at, codes_of}
use Rattle.salvaging.specs.Salvage.{left_at}
use Rattle.salvaging.proofs.FateLaws.{same_is, is_same, fate_bad, fate_doubled, fate_kept, fate_moved}
use Rattle.recovery.specs.Refusals.{New, Left, Becomes, bad, doubled, kept, moved}
use Rattle.basics.proofs.OnceLaws.{both, and_both, first_below}

-- ---- doubled

-- it equals an earlier good block
abbrev Copy : List ℕ → ℕ → Type 0
Copy s i = (j : ℕ) × (j < i) × GoodBlock (block_at s j) × (block_at s j ≡ block_at s i)

module _ (s : List ℕ) (i : ℕ) where
  doubled_is : is_doubled s i ≡ true → Copy s i
  unfolding is_doubled
  doubled_is e =
      let test : ℕ → Bool = λ j. good_at s j && same_bytes (block_at s j) (block_at s i) in
      let f : ℕ = first_to i test in
      let h = ltb-true f i e in
      let p = and_true (good_at s f) (same_bytes (block_at s f) (block_at s i)) ((first_is i test).found h) in
      (f, h, good_is (block_at s f) p.0, same_is (block_at s f) (block_at s i) p.1)

  is_doubled_lem : Copy s i → is_doubled s i ≡ true
  unfolding is_doubled
  is_doubled_lem (j, h, g, e) =
      let test : ℕ → Bool = λ k. good_at s k && same_bytes (block_at s k) (block_at s i) in
      lt-ltb _ _ (first_below i j test h (and_both _ _ (is_good (block_at s j) g) (is_same (block_at s j) (block_at s i) e)))

  new_is : is_doubled s i ≡ false → New s i
  new_is e j h g q = fails (is_doubled s i) is_doubled_lem e (j, h, g, q)

  is_new : New s i → is_doubled s i ≡ false
  is_new n = failing (is_doubled s i) doubled_is (λ c. n c.0 c.1 c.2 c.3)

  bad_is : good_at s i ≡ false → GoodBlock (block_at s i) → ⊥
  bad_is e = fails (good_at s i) (is_good (block_at s i)) e

  is_bad : (GoodBlock (block_at s i) → ⊥) → good_at s i ≡ false
  is_bad n = failing (good_at s i) (good_is (block_at s i)) n

  pub number_is : number_on s i ≡ byte_at (block_at s i) 5
  unfolding head_in
  number_is = refl

  -- ---- what becomes of it

  pub becomes : Becomes s i (fate_at s i)
  unfolding fate_at
  becomes = go (good_at s i) (is_doubled s i) (eqb (number_on s i) (i + 1)) refl refl refl
    where
      go : (b c d : Bool) → good_at s i ≡ b → is_doubled s i ≡ c → eqb (number_on s i) (i + 1) ≡ d
          → Becomes s i (pick (not b) Bad (pick c Doubled (pick d Kept Moved)))
      go false c d e f g = bad (bad_is e)
      go true true d e f g = let x = doubled_is f in doubled x.0 (good_is (block_at s i) e) x.1 x.2 x.3
      go true false true e f g = kept (good_is (block_at s i) e, new_is f) (sym number_is ∙ eqb-true _ _ g)
      go true false false e f g = moved (good_is (block_at s i) e, new_is f) (λ q. both (eq-eqb _ _ (number_is ∙ q)) g)

  pub fate_is : (f : Fate) → Becomes s i f → fate_at s i ≡ f
  fate_is _ (bad n) = fate_bad s i (is_bad n)
  fate_is _ (doubled j g h x e) = fate_doubled s i (is_good (block_at s i) g) (is_doubled_lem (j, h, x, e))
  fate_is _ (kept l e) = fate_kept s i (is_good (block_at s i) l.0) (is_new l.1) (number_is ∙ e)
  fate_is _ (moved l n) = fate_moved s i (is_good (block_at s i) l.0) (is_new l.1) (λ e. n (sym number_is ∙ e))

  -- ---- whether it is left

  fate_left : (f : Fate) → Becomes s i f → leb (code_of Kept) (code_of f) ≡ true → Left s i
  fate_left _ (bad n) e = both e refl
  fate_left _ (doubled j g h x q) e = both e refl
  fate_left _ (kept l q) e = l
  fate_left _ (moved l n) e = l

  left_fate : (f : Fate) → Becomes s i f → Left s i → leb (code_of Kept) (code_of f) ≡ true
  left_fate _ (bad n) l = absurd (n l.0)
  left_fate _ (doubled j g h x q) l = absurd (l.1 j h x q)
  left_fate _ (kept m q) l = refl
  left_fate _ (moved m n) l = refl

  pub code_is : i < blocks_in s → byte_at (codes_of s) i ≡ code_at s i
  unfolding codes_of
  code_is h = row_at (blocks_in s) i (code_at s) 0 h

  pub left_is : i < blocks_in s → left_at (codes_of s) i ≡ true → Left s i
  left_is h e = fate_left (fate_at s i) becomes (rw (code_is h) at e)

  pub is_left : i < blocks_in s → Left s i → left_at (codes_of s) i ≡ true
  is_left h l = rw (code_is h) (left_fate (fate_at s i) becomes l)
