use Prim.Native.Nat.{ℕ, ◌+◌, ◌<◌}
use mathlib.Core.Path.{◌≡◌, refl, sym, ap, ◌∙◌}
use mathlib.Core.List.{List}
use native.Mathlib.Decide.{ℕ_discrete}
use native.Mathlib.Omega.{arith}
use lib.ListN.{get_or}
use Rattle.theory.proofs.MergeLaws.{slot_alone, slot_found}
use Rattle.merging.proofs.slot_of.Goals as goal

-- one more
next : (g : List ℕ) (j k : ℕ) → (get_or g k 0 ≡ get_or g j 0 → ⊥) → ((i : ℕ) → i < k → get_or g i 0 ≡ get_or g j 0 → ⊥)
    → (i : ℕ) → i < k + 1 → get_or g i 0 ≡ get_or g j 0 → Dec (i ≡ k) → ⊥
next g j k last before i h e (yes d) = last (ap (λ (i : ℕ). get_or g i 0) (sym d) ∙ e)
next g j k last before i h e (no d) = before i (omega arith) e

pub returns-then-own-eq0 : goal.returns-then-own-eq0
returns-then-own-eq0 c = (sym (slot_alone c.args.groups c.args.j c.if-own-eq0.true), c.requires)

pub loop-k-init : goal.loop-k-init
loop-k-init c = λ i h. absurd (omega arith)

pub returns-then-groups-k : goal.returns-then-groups-k
returns-then-groups-k c =
    (sym (slot_found c.args.groups c.args.j c.loop-k.k c.if-own-eq0.false (omega (arith, c.requires)) c.if-groups-k.true c.loop-k.invariant), omega (arith, c.requires))

pub loop-k-preserved : goal.loop-k-preserved
loop-k-preserved c =
    λ i h e. next c.args.groups c.args.j c.loop-k.k c.if-groups-k.false c.loop-k.invariant i h e (ℕ_discrete i c.loop-k.k)

pub returns : goal.returns
returns c =
    let k : c.loop-k.k ≡ c.args.j = omega arith in
    (sym (slot_found c.args.groups c.args.j c.args.j c.if-own-eq0.false c.requires refl (λ i h. c.loop-k.invariant i (rw k h))), c.requires)
