-- The report's section III-B, equations (4) and (5): the workload bounds what the jobs of one task run in a window, if they meet their deadlines up to its end.
use Rattle.std.specs.Prelude.{ℕ, suc, ◌+◌, ◌≤◌, ◌<◌, ◌≡◌, Bool, true}
use Rattle.basics.specs.Over.{sum_to, count_to}
use Rattle.theory.specs.Work.{workload}

-- Job j is released at r j, at least T after the one before. `ticks s j`: at the instant s it runs a unit that counts. Up to the instant E a job runs no earlier than its release and less than D after it, and
-- of its units that count at most x
pub record Sporadic (T D x E : ℕ) (r : ℕ → ℕ) (ticks : ℕ → ℕ → Bool) : Type 0 where
  pub apart : (j : ℕ) → r j + T ≤ r (suc j)
  pub released : (s j : ℕ) → s < E → ticks s j ≡ true → r j ≤ s
  pub in_time : (s j : ℕ) → s < E → ticks s j ≡ true → s < r j + D
  pub most : (j : ℕ) → count_to E (λ s. ticks s j) ≤ x

-- the units that count, of the first K jobs, in the window of length t from A on
abbrev pub served : (ℕ → ℕ → Bool) → ℕ → ℕ → ℕ → ℕ
served ticks K A t = sum_to t (λ s. count_to K (ticks (A + s)))

pub record InWindows : Type 0 where
  pub most : (T D x A t : ℕ) (r : ℕ → ℕ) (ticks : ℕ → ℕ → Bool) → 1 ≤ T → x ≤ D → D ≤ T → Sporadic T D x (A + t) r ticks
      → (K : ℕ) → served ticks K A t ≤ workload T D t x
