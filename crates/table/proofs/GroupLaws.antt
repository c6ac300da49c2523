-- Groups: each test of them is the fact that it stands for.
-- Assumes nothing.
use Prim.Native.Nat.{ℕ, ◌≤◌, ◌<◌}
use mathlib.Core.Path.{◌≡◌, refl, sym, ap}
use mathlib.Core.Bool.{Bool, true, false, true≢false, not}
use native.Mathlib.Omega.{arith}
use borrow.Author.Tests.{leb-true, leb-false, le-leb, lt-leb, eqb-true, eqb-false, eq-eqb, ne_eqb}
use lib.Dec.{leb, eqb}
use Rattle.basics.specs.Exactly.{◌exactly_if◌}
use Rattle.basics.proofs.AllLaws.{all_at, all_fails, all_hold, all_missed}
use Rattle.table.specs.declared.Table.{Table}
use Rattle.table.specs.Limits.{max_resources, max_group}
use Rattle.table.specs.At.{group_at, NoGroup}
use Rattle.table.specs.Rules.{groups_in_range, has_group}
use Rattle.table.specs.Refusals.{GroupsInRange}

pub not_false : (b : Bool) → not b ≡ false → b ≡ true
not_false true e = refl
not_false false e = absurd (true≢false e)

pub not_true : (b : Bool) → not b ≡ true → b ≡ false
not_true true e = absurd (true≢false (sym e))
not_true false e = refl

module _ (t : Table) where
  pub groups_range_is : (groups_in_range t.groups ≡ true) exactly_if GroupsInRange t
  unfolding groups_in_range
  groups_range_is =
      (λ e k h. leb-true _ _ (all_at max_resources k _ e h), λ g. all_hold max_resources _ (λ k h. le-leb (group_at t k) max_group (g k h)))

  -- a group above 16
  pub group_above : groups_in_range t.groups ≡ false → (k : ℕ) × (k < max_resources) × (max_group < group_at t k)
  unfolding groups_in_range
  group_above e = let z = all_missed max_resources (λ k. leb (group_at t k) max_group) e in (z.0, z.1, leb-false _ _ z.2)

  pub above_out : (k : ℕ) → k < max_resources → max_group < group_at t k → groups_in_range t.groups ≡ false
  unfolding groups_in_range
  above_out k h l = all_fails max_resources k _ h (lt-leb (group_at t k) max_group l)

  -- no group
  pub no_group_is : (has_group t.groups ≡ false) exactly_if NoGroup t
  unfolding has_group
  no_group_is = (
    λ e k h. eqb-true _ _ (all_at max_resources k (λ k. eqb (group_at t k) 0) (not_false _ e) h),
    λ z. ap not (all_hold max_resources (λ k. eqb (group_at t k) 0) (λ k h. eq-eqb _ _ (z k h))),
  )

  -- a group: of some resource
  pub group_is : (has_group t.groups ≡ true) exactly_if ((k : ℕ) × (k < max_resources) × (1 ≤ group_at t k))
  unfolding has_group
  group_is = (λ e. some (all_missed max_resources (λ k. eqb (group_at t k) 0) (not_true _ e)), there)
    where
      some : ((k : ℕ) × (k < max_resources) × (eqb (group_at t k) 0 ≡ false)) → (k : ℕ) × (k < max_resources) × (1 ≤ group_at t k)
      some z = (z.0, z.1, least (group_at t z.0) (eqb-false _ _ z.2))
        where
          least : (g : ℕ) → (g ≡ 0 → ⊥) → 1 ≤ g
          least g d = omega arith

      there : ((k : ℕ) × (k < max_resources) × (1 ≤ group_at t k)) → has_group t.groups ≡ true
      there z = ap not (all_fails max_resources z.0 (λ k. eqb (group_at t k) 0) z.1 (ne_eqb (group_at t z.0) 0 (λ e. omega (arith, z.2))))
