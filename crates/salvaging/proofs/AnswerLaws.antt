-- The blocks of an input, and what is known where neither 15 nor 11 is given.
-- Assumes nothing.
use Prim.Native.Nat.{ℕ, ◌*◌, ◌/◌, ◌%◌, ◌≤◌}
use mathlib.Core.Path.{◌≡◌, refl, ◌∙◌}
use mathlib.Core.Bool.{Bool, true, false, ◌&&◌}
use mathlib.Core.List.{List}
use native.Mathlib.Omega.{arith}
use borrow.Author.Tests.{eqb-true, leb-true}
use Rattle.table.proofs.FirstLaws.{then_fine}
use Rattle.table.proofs.RuleLaws.{unless_fine}
use lib.ListN.{length}
use lib.Dec.{leb, eqb}
use Rattle.basics.specs.Choice.{pick, within}
use Rattle.basics.proofs.ChoiceLaws.{and_true, within_true}
use Rattle.table.specs.declared.Fault.TheVariants.{TooShort, BadCard}
use Rattle.std.specs.Prelude.{Ok}
use Rattle.table.specs.Faults.{unless}
use Rattle.salvaging.specs.Salvage.{max_blocks, is_card, blocks_of, has_room, room_fault}

-- ---- 15 and 11

pub card_whole : (l : ℕ) → is_card l ≡ true → (l ≡ 512 * (l / 512)) × (1 ≤ l / 512) × (l / 512 ≤ max_blocks)
unfolding is_card
card_whole l e =
    let p = and_true (eqb (l % 512) 0) (within 1 max_blocks (l / 512)) e in
    let w = within_true 1 max_blocks (l / 512) p.1 in
    let r : l % 512 ≡ 0 = eqb-true _ _ p.0 in
    (omega arith, w.0, w.1)

-- the blocks that are looked at
abbrev pub looked : List ℕ → ℕ
looked s = blocks_of (length s)

pub looked_card : (l : ℕ) → is_card l ≡ true → blocks_of l ≡ l / 512
unfolding blocks_of
looked_card l e = rw e

pub looked_bounds : (l : ℕ) → (512 * blocks_of l ≤ l) × (blocks_of l ≤ max_blocks)
unfolding blocks_of
looked_bounds l = go (is_card l) refl
  where
    go : (b : Bool) → is_card l ≡ b → (512 * pick b (l / 512) 0 ≤ l) × (pick b (l / 512) 0 ≤ max_blocks)
    go true e = let c = card_whole l e in (omega (arith, c.0), c.2)
    go false e = (omega arith, omega arith)

-- what is known where neither is given
pub record Roomy (l entries room : ℕ) : Type 0 where
  pub blocks_are : blocks_of l ≡ l / 512
  pub most : blocks_of l ≤ max_blocks
  pub whole : l ≡ 512 * blocks_of l
  pub list : blocks_of l ≤ entries
  pub out : l ≤ room

pub roomy : (l entries room : ℕ) → room_fault l entries room ≡ Ok tt → Roomy l entries room
unfolding room_fault has_room
roomy l entries room e =
    let f = then_fine (unless (is_card l) BadCard 0) (unless (leb (l / 512) entries && leb l room) TooShort 0) e in
    let b = looked_card l (unless_fine (is_card l) BadCard 0 f.0) in
    let c = card_whole l (unless_fine (is_card l) BadCard 0 f.0) in
    let p = and_true (leb (l / 512) entries) (leb l room) (unless_fine (leb (l / 512) entries && leb l room) TooShort 0 f.1) in
    record {
      blocks_are = b;
      most = omega (arith, b, c.2);
      whole = c.0 ∙ rw b;
      list = omega (arith, b, leb-true _ _ p.0);
      out = leb-true _ _ p.1;
    }
