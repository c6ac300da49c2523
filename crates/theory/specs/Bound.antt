-- Document 01: "The verdict on a task is either a bound or a miss", over any demand f and deadline D. No allowance of rounds enters here.
use Rattle.std.specs.Prelude.{ℕ, ◌≤◌}

-- "The bound is the least t, 1 ≤ t ≤ D, whose demand is at most t."
pub record Least (f : ℕ → ℕ) (D t : ℕ) : Type 0 where
  pub low : 1 ≤ t
  pub high : t ≤ D
  pub meets : f t ≤ t
  pub least : (s : ℕ) → 1 ≤ s → f s ≤ s → t ≤ s

-- "It is a miss exactly if no such t exists."
abbrev pub None : (ℕ → ℕ) → ℕ → Type 0
None f D = (s : ℕ) → 1 ≤ s → s ≤ D → f s ≤ s → ⊥
