-- What each part keeps: it is good. And the multiplier that divides by its period.
use Rattle.std.specs.Prelude.{ℕ, ◌+◌, ◌*◌, ◌/◌, ◌^◌, ◌≤◌, ◌<◌, ◌≡◌}
use Rattle.table.specs.Limits.{max_time}

-- the most that t + off can be: a length and an offset are times
abbrev pub max_span : ℕ
max_span = max_time + max_time

-- the multiplier and the shift divide every number that comes up, t + off, by the period. The largest multiplier is 2^38 + 1 (`Part::new`)
pub record Divides (T shift mul : ℕ) : Type 0 where
  pub short : shift < 64
  pub small : mul ≤ 2 ^ 38 + 1
  pub right : (a : ℕ) → a ≤ max_span → a * mul / 2 ^ shift ≡ a / T

pub record GoodPart (period units off shift mul : ℕ) : Type 0 where
  pub period_least : 1 ≤ period
  pub units_period : units ≤ period
  pub near : off ≤ max_time
  pub divides : Divides period shift mul
