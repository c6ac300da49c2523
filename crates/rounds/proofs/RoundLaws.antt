-- The demand over shares: it never falls, it is at least the base, and its rounds are those of the definition.
-- Assumes nothing.
use Prim.Native.Nat.{ℕ, suc, ◌+◌, ◌-◌, ◌≤◌, ◌<◌}
use mathlib.Core.Path.{◌≡◌, sym, ap, ◌∙◌}
use native.Mathlib.Nat.{le_refl, le_trans, add-le-add}
use native.Mathlib.Omega.{arith}
use Rattle.basics.proofs.SumLaws.{sum_le}
use Rattle.theory.specs.declared.Verdict.TheVariants.{Meets, Misses, Open}
use Rattle.theory.specs.declared.Counted.{Counted}
use Rattle.theory.specs.Work.{workload}
use Rattle.theory.specs.Rounds.{one_more, counted_from}
use Rattle.theory.proofs.LeastLaws.{Rises}
use Rattle.theory.proofs.RoundLaws.{round_repeats, round_passes, round_goes_on}
use Rattle.theory.proofs.WorkLaws.{workload_rises, ceil_div_rises}
use Rattle.rounds.specs.declared.Shares.{Shares}
use Rattle.rounds.specs.Shares.{share_at, whole_of, part_of, shares_demand}
use Rattle.rounds.specs.Outcome.{SoundShares}

demand_base : (s : Shares) (t : ℕ) → s.base ≤ shares_demand s t
unfolding shares_demand
demand_base s t = omega arith

demand_rises : (s : Shares) (D : ℕ) → SoundShares s D → Rises (shares_demand s)
unfolding shares_demand
demand_rises s D g t t' h =
    omega (
      arith,
      sum_le s.n _ _ whole,
      ceil_div_rises s.cpus s.cpus _ _ g.head.cpus_least (le_refl _) (sum_le s.n _ _ part),
    )
  where
    up : (l x : ℕ) → l < s.n
        → let e = share_at s l in
        workload e.period e.deadline t x ≤ workload e.period e.deadline t' x
    up l x k = workload_rises _ _ _ t t' x (g.row.each l k).whole.period_least (le_refl _) h

    whole : (l : ℕ) → l < s.n → whole_of (share_at s l) t ≤ whole_of (share_at s l) t'
    whole l k = up l (share_at s l).whole k

    part : (l : ℕ) → l < s.n → part_of (share_at s l) t ≤ part_of (share_at s l) t'
    part l k = add-le-add (up l (share_at s l).one k) (up l (share_at s l).two k)

-- ---- the rounds

-- a verdict after so many rounds before
abbrev pub after : ℕ → Counted → Counted
after used r = record { verdict = r.verdict; rounds = used + r.rounds }

-- t lies from 1 to D and is at most its demand; of the rounds allowed some are left, and what they come to from t on, after those used, all come to from C on
pub record Sought (s : Shares) (D A t used : ℕ) : Type 0 where
  pub low : 1 ≤ t
  pub high : t ≤ D
  pub up : t ≤ shares_demand s t
  pub left : used < A
  pub rest : after used (counted_from (shares_demand s) D (A - used) t) ≡ counted_from (shares_demand s) D A s.start

pub sought_start : {s : Shares} {D A : ℕ} → SoundShares s D → 1 ≤ A → Sought s D A s.start 0
sought_start {s} {D} {A} g h =
    let x = counted_from (shares_demand s) D A s.start in
    let z : A - 0 ≡ A = omega arith in
    let e : 0 + x.rounds ≡ x.rounds = omega arith in
    record {
      low = g.head.start_least;
      high = g.head.start_deadline;
      up = le_trans g.head.start_base (demand_base s s.start);
      left = h;
      rest = ap (λ (n : ℕ). after 0 (counted_from (shares_demand s) D n s.start)) z ∙ (λ j. record { verdict = x.verdict; rounds = e j });
    }

-- the end of the round at t: f is the demand
pub record Round (s : Shares) (D A t used f : ℕ) : Type 0 where
  pub sound : SoundShares s D
  pub sought : Sought s D A t used
  pub is : f ≡ shares_demand s t

module _ {s : Shares} {D A t used f : ℕ} (r : Round s D A t used f) where
  -- this round, and as many after it as are left
  this : {x : Counted} → counted_from (shares_demand s) D (suc (A - (used + 1))) t ≡ x → after used x ≡ counted_from (shares_demand s) D A s.start
  this e =
      let l : suc (A - (used + 1)) ≡ A - used = omega (arith, r.sought.left) in
      ap (after used) (sym e) ∙ ap (λ (n : ℕ). after used (counted_from (shares_demand s) D n t)) l ∙ r.sought.rest

  on : t < f → shares_demand s t ≡ t → ⊥
  on l e = omega (arith, r.is)

  next : t < f → f ≤ D → counted_from (shares_demand s) D (suc (A - (used + 1))) t ≡ one_more (counted_from (shares_demand s) D (A - (used + 1)) f)
  next l k = rw r.is (round_goes_on (shares_demand s) D (A - (used + 1)) t (on l) (omega (arith, r.is)))

  pub round_meets : f ≤ t → record { verdict = Meets t; rounds = used + 1 } ≡ counted_from (shares_demand s) D A s.start
  round_meets l = this (round_repeats (shares_demand s) D (A - (used + 1)) t (omega (arith, r.is, r.sought.up)))

  pub round_misses : t < f → D < f → record { verdict = Misses; rounds = used + 1 } ≡ counted_from (shares_demand s) D A s.start
  round_misses l k = this (round_passes (shares_demand s) D (A - (used + 1)) t (on l) (omega (arith, r.is)))

  pub round_open : t < f → f ≤ D → used + 1 ≡ A → record { verdict = Open; rounds = used + 1 } ≡ counted_from (shares_demand s) D A s.start
  unfolding counted_from
  round_open l k e =
      let z : A - (used + 1) ≡ 0 = omega arith in
      this (next l k ∙ ap (λ (n : ℕ). one_more (counted_from (shares_demand s) D n f)) z)

  pub round_more : t < f → f ≤ D → (used + 1 ≡ A → ⊥) → Sought s D A f (used + 1)
  round_more l k n =
      let x = counted_from (shares_demand s) D (A - (used + 1)) f in
      let e : used + 1 + x.rounds ≡ used + suc x.rounds = omega arith in
      record {
        low = omega arith;
        high = k;
        up = rw r.is (demand_rises s D r.sound t (shares_demand s t) r.sought.up);
        left = omega (arith, r.sought.left);
        rest = (λ j. record { verdict = x.verdict; rounds = e j }) ∙ this (next l k);
      }
