-- How the workloads, and the demand, go on from a length; and rounds that climb alike.
use Rattle.std.specs.Prelude.{ℕ, ◌+◌, ◌-◌, ◌*◌, ◌/◌, ◌≤◌, ◌<◌, ◌≡◌}
use Rattle.theory.specs.Work.{ceil_div}
use Rattle.rounds.specs.declared.Part.{Part}
use Rattle.rounds.specs.declared.Parts.{Parts}
use Rattle.rounds.specs.declared.strides.Course.{Course}
use Rattle.rounds.specs.Parts.{loads}

-- from t on f goes straight on, this far: with each microsecond it rises by so much
abbrev pub Straight : (ℕ → ℕ) → ℕ → ℕ → ℕ → Type 0
Straight f t rises reach = (g : ℕ) → g ≤ reach → f (t + g) ≡ f t + rises * g

-- how f, one workload or the sum of so many, goes on
pub record CourseIs (f : ℕ → ℕ) (many t : ℕ) (r : Course) : Type 0 where
  pub few : r.rises ≤ many
  pub straight : Straight f t r.rises r.reach

-- what the whole periods leave of t + off
pub record GoneIs (e : Part) (t r : ℕ) : Type 0 where
  pub is : r ≡ t + e.off - (t + e.off) / e.period * e.period
  pub less : r < e.period

-- what the rows come to over t: the demand less C + DB
abbrev pub rows_demand : {N M : ℕ} → Parts N → Parts M → ℕ → ℕ → ℕ
rows_demand w d m t = loads w.of w.n t + ceil_div (loads d.of d.n t) m

-- r rounds that climb by `climb` each: no more than `left` of them, no further than `headway` together, and the last begins no further on from the first than `reach`
pub record StrideIs (reach climb headway left r : ℕ) : Type 0 where
  pub some : 1 ≤ r
  pub few : r ≤ left
  pub fits : r * climb ≤ headway
  pub begins : (r - 1) * climb ≤ reach
