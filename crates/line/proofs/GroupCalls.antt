-- What the fields of a `group` line call for is what its rules from 3 on refuse with.
-- Assumes nothing.
use Prim.Native.Nat.{ℕ}
use mathlib.Core.Path.{◌≡◌, refl}
use mathlib.Core.Bool.{Bool, true, ◌&&◌}
use mathlib.Core.List.{List}
use native.Mathlib.Omega.{arith}
use borrow.Author.Tests.{lt-ltb, le-ltb}
use lib.Dec.{ltb}
use Rattle.std.specs.Prelude.{Option}
use Rattle.basics.specs.Choice.{within}
use Rattle.basics.specs.Exactly.{◌exactly_if◌}
use Rattle.basics.proofs.ChoiceLaws.{and_true}
use Rattle.table.specs.declared.Fault.TheVariants.{BadField, OutOfRange, GroupNotRising}
use Rattle.table.specs.Faults.{Checked}
use Rattle.table.specs.Limits.{max_resources, max_group}
use Rattle.table.specs.Faults.{Refuses, ◌then◌, unless}
use Rattle.table.specs.Refusals.{InRange}
use Rattle.table.proofs.Deciding.{is_rule, from_rule, from_two, by_first, fails, failing}
use Rattle.table.proofs.RuleFacts.{range_is}
use Rattle.table.proofs.RuleLaws.{unless_fine}
use Rattle.field.specs.declared.Field.{Field}
use Rattle.field.specs.Number.{first, count_field}
use Rattle.line.specs.declared.Past.{Past}
use Rattle.line.specs.Line.{formed, value}
use Rattle.line.specs.Stated.{StatesGroup}
use Rattle.line.specs.Refusals.{GroupLineCalls}
use Rattle.line.proofs.StatedLaws.{formed_states, count_in_lem, count_stated}

-- 4, of G and of K
both_in_range : (G K : ℕ) → ((within 1 max_group G && within 1 max_resources K) ≡ true) exactly_if (InRange 1 max_group G × InRange 1 max_resources K)
both_in_range G K = (
  λ e. let h = and_true (within 1 max_group G) (within 1 max_resources K) e in ((range_is 1 max_group G).0 h.0, (range_is 1 max_resources K).0 h.1),
  λ h. rw ((range_is 1 max_group G).1 h.0, (range_is 1 max_resources K).1 h.1),
)

module _ (past : Past) (n : ℕ) {g k : List ℕ} (a : first g ≡ g) (b : first k ≡ k) where
  abbrev G : Option Field
  G = count_field g

  abbrev K : Option Field
  K = count_field k

  abbrev group_formed : Bool
  group_formed = formed G && formed K

  abbrev group_range : Bool
  group_range = within 1 max_group (value G) && within 1 max_resources (value K)

  abbrev pub group_check : Checked
  group_check = unless group_formed BadField n then unless group_range OutOfRange n then unless (ltb past.group.0 (value K)) GroupNotRising n

  abbrev GroupCalls : ℕ → ℕ → Type 0
  GroupCalls q place = GroupLineCalls past g k q × (n ≡ place)

  -- the numbers that the fields state are those that are read
  group_stated : group_formed ≡ true → StatesGroup g k (value G) (value K)
  group_stated f =
      let h = and_true (formed G) (formed K) f in
      record { group = count_in_lem a (formed_states G h.0); resource = count_in_lem b (formed_states K h.1) }

  group_formed_lem : {x y : ℕ} → StatesGroup g k x y → group_formed ≡ true
  group_formed_lem s = rw ((count_stated s.group).is, (count_stated s.resource).is)

  pub group_calls : (q place : ℕ) → Refuses group_check q place → GroupCalls q place
  group_calls q place =
      let rising = unless (ltb past.group.0 (value K)) GroupNotRising n in
      from_two (unless group_formed BadField n) (unless group_range OutOfRange n then rising) q place
      (from_rule GroupCalls group_formed BadField n q place (λ x. (GroupLineCalls.bad_field (λ y z s. fails _ (λ (s : StatesGroup g k y z). group_formed_lem s) x s), refl)))
      (λ f.
      let s = group_stated (unless_fine _ BadField n f) in
      from_two (unless group_range OutOfRange n) rising q place
      (from_rule GroupCalls group_range OutOfRange n q place (λ x. (GroupLineCalls.out_of_range s (fails _ (both_in_range (value G) (value K)).1 x), refl)))
      (λ h.
      let i = (both_in_range (value G) (value K)).0 (unless_fine _ OutOfRange n h) in
      from_rule GroupCalls (ltb past.group.0 (value K)) GroupNotRising n q place
      (λ x. (GroupLineCalls.group_not_rising s i.0 i.1 (omega (arith, fails _ (lt-ltb past.group.0 (value K)) x)), refl))))

  pub group_given : {q : ℕ} → GroupLineCalls past g k q → Refuses group_check q n
  group_given (GroupLineCalls.bad_field h) = by_first _ _ 3 n (is_rule group_formed BadField n (failing group_formed group_stated (h _ _)))
  group_given (GroupLineCalls.out_of_range {G = x} {K = y} s h) =
      rw ((count_stated s.group).is, (count_stated s.resource).is)
      (by_first _ _ 4 n (is_rule (within 1 max_group x && within 1 max_resources y) OutOfRange n (failing _ (both_in_range x y).0 h)))
  group_given (GroupLineCalls.group_not_rising {G = x} {K = y} s i j h) =
      rw ((count_stated s.group).is, (count_stated s.resource).is, (range_is 1 max_group x).1 i, (range_is 1 max_resources y).1 j)
      (is_rule _ GroupNotRising n (le-ltb past.group.0 y h))
