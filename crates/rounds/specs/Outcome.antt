-- Shares are sound where they can be those of an accepted table: then every sum and product of a round fits. The outcome of others is that they are not.
use Rattle.std.specs.Prelude.{ℕ, ◌+◌, ◌*◌, ◌≤◌, ◌<◌, Bool, ◌&&◌, leb, Option, Some, None}
use Rattle.basics.specs.Choice.{pick, within}
use Rattle.basics.specs.Over.{all_to}
use Rattle.table.specs.Limits.{max_cpus, max_tasks, max_resources, max_time, max_count}
use Rattle.theory.specs.Rounds.{counted_from}
use Rattle.rounds.specs.declared.Share.{Share}
use Rattle.rounds.specs.declared.Shares.{Shares}
use Rattle.theory.specs.declared.Counted.{Counted}
use Rattle.rounds.specs.Shares.{share_at, shares_demand}

-- the most that DB can be, each of the resources asked for as often as may be and waited for as long; and C + DB
abbrev pub max_wait : ℕ
max_wait = max_resources * (max_count * max_time)

abbrev pub max_base : ℕ
max_base = max_time + max_wait

-- T is a time, D is at most T, and no units are more than D
unfoldable pub share_fits : Share → Bool
share_fits e =
    within 1 max_time e.period && leb e.deadline e.period
    && leb e.whole e.deadline && leb e.one e.deadline && leb e.two e.deadline

-- m processors, n tasks, 1 ≤ C ≤ C + DB, and C ≤ D ≤ the longest time
unfoldable pub head_fits : ℕ → ℕ → ℕ → ℕ → ℕ → Bool
head_fits start base cpus n D =
    within 1 base start && leb base max_base && within 1 max_cpus cpus && leb n max_tasks && within start max_time D

unfoldable pub is_sound : Shares → ℕ → Bool
is_sound s D = head_fits s.start s.base s.cpus s.n D && all_to s.n (λ l. share_fits (share_at s l))

unfoldable pub outcome_of : Shares → ℕ → ℕ → Option Counted
outcome_of s D allowance = pick (is_sound s D) (Some (counted_from (shares_demand s) D allowance s.start)) None

-- ---- the same as facts

pub record Sound (T D x : ℕ) : Type 0 where
  pub period_least : 1 ≤ T
  pub units_deadline : x ≤ D
  pub deadline_period : D ≤ T
  pub period_most : T ≤ max_time

pub record SoundShare (e : Share) : Type 0 where
  pub whole : Sound e.period e.deadline e.whole
  pub one : Sound e.period e.deadline e.one
  pub two : Sound e.period e.deadline e.two

pub record SoundRow (s : Shares) : Type 0 where
  pub tasks_most : s.n ≤ max_tasks
  pub each : (l : ℕ) → l < s.n → SoundShare (share_at s l)

pub record SoundHead (start base cpus n D : ℕ) : Type 0 where
  pub start_least : 1 ≤ start
  pub start_base : start ≤ base
  pub base_most : base ≤ max_base
  pub cpus_least : 1 ≤ cpus
  pub cpus_most : cpus ≤ max_cpus
  pub tasks_most : n ≤ max_tasks
  pub start_deadline : start ≤ D
  pub deadline_most : D ≤ max_time

pub record SoundShares (s : Shares) (D : ℕ) : Type 0 where
  pub head : SoundHead s.start s.base s.cpus s.n D
  pub row : SoundRow s
