-- What the analysis of one task reads of a table: a share of each task; and the demand over the shares.
use Rattle.std.specs.Prelude.{ℕ, ◌+◌, List, get_or}
use Rattle.basics.specs.Over.{sum_to}
use Rattle.theory.specs.Work.{workload, ceil_div}
use Rattle.rounds.specs.declared.Share.{Share}
use Rattle.rounds.specs.declared.Shares.{Shares}

-- the share at slot l of a row, and past its end nothing
abbrev pub no_share : Share
no_share = record { period = 0; deadline = 0; whole = 0; one = 0; two = 0 }

abbrev pub share_in : List Share → ℕ → Share
share_in of l = get_or of l no_share

abbrev pub share_at : Shares → ℕ → Share
share_at s l = share_in s.of l

-- the workload of a share's units that count whole, and of those that are divided
abbrev pub whole_of : Share → ℕ → ℕ
whole_of e t = workload e.period e.deadline t e.whole

abbrev pub part_of : Share → ℕ → ℕ
part_of e t = workload e.period e.deadline t e.one + workload e.period e.deadline t e.two

unfoldable pub shares_demand : Shares → ℕ → ℕ
shares_demand s t =
    s.base + sum_to s.n (λ l. whole_of (share_at s l) t) + ceil_div (sum_to s.n (λ l. part_of (share_at s l) t)) s.cpus
