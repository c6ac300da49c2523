-- `analysis::counted_at` meets its contract: the shares are sound, and the demand over them is the table's, so the verdict and its rounds are too. Assumes nothing.
use Prim.Native.Nat.{ℕ}
use mathlib.Core.Path.{◌≡◌, ap, ap₂, ◌∙◌}
use native.Mathlib.Omega.{arith}
use Rattle.theory.specs.View.{level}
use Rattle.theory.specs.Rounds.{counted_from}
use Rattle.rounds.specs.declared.Shares.{Shares}
use Rattle.std.specs.Prelude.{Some}
use Rattle.rounds.specs.Outcome.{outcome_of}
use Rattle.rounds.proofs.SoundLaws.{sound_test}
use Rattle.theory.specs.Tables.{view_of, counted_by}
use Rattle.shares.proofs.SoundLaws.{reduced}
use Rattle.shares.proofs.Reduce.{shares_demand_lem}
use Rattle.analysis.proofs.counted_at.Goals as goal
use Rattle.analysis.proofs.counted_at.Goals.{After-outcome_of}

pub offset_bounds-m-i : goal.offset_bounds-m-i
offset_bounds-m-i c = omega (arith, c.requires.0.tasks_most)

pub bounds-m-i : goal.bounds-m-i
bounds-m-i c = omega (arith, c.requires.0.tasks_most)

-- the outcome over the shares is the table's
outcome : (c : goal.After-outcome_of)
    → let a = c.args in
    c.outcome_of.result ≡ Some (counted_by (view_of a.m) a.allowance (level a.i))
unfolding counted_by outcome_of
outcome c =
    let t = c.args.m in
    let A = c.args.allowance in
    let i = c.args.i in
    let D = (view_of t).D (level i) in
    let r = reduced t i c.requires.0 c.requires.1 in
    c.outcome_of.ensures
    ∙ ap (λ (s : Shares). outcome_of s D A) c.shares_of-s.ensures
    ∙ rw (sound_test _ _ r.sound) (ap₂ (λ (f : ℕ → ℕ) (C : ℕ). Some (counted_from f D A C)) (λ j u. shares_demand_lem (view_of t) i _ r.are u j) r.are.start)

-- they are sound, so there is one
pub unwrap-requires : goal.unwrap-requires
unwrap-requires c = rw (outcome c)

pub returns : goal.returns
returns c = cc (outcome (goal.at.returns c).After-outcome_of)
