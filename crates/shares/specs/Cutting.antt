-- What the analysis of task i reads of a table: of a task above i what S, O and F count, of a task below i what L counts.
use Rattle.std.specs.Prelude.{ℕ, ◌+◌, ◌-◌, min, ◌&&◌, leb, ltb, replicate}
use Rattle.basics.specs.Choice.{pick, only}
use Rattle.basics.specs.Over.{row_to}
use Rattle.table.specs.declared.Level.{Level}
use Rattle.table.specs.declared.Table.{Table}
use Rattle.table.specs.Limits.{max_tasks}
use Rattle.theory.specs.View.{View, level, is_above}
use Rattle.theory.specs.Demand.{shared_CT, other_CT, all_CT, high_CT, DB}
use Rattle.theory.specs.Tables.{view_of}
use Rattle.rounds.specs.declared.Share.{Share}
use Rattle.rounds.specs.declared.Shares.{Shares}
use Rattle.rounds.specs.Shares.{no_share}
use Rattle.rounds.specs.Outcome.{max_wait}

-- ---- the units of task l that count

abbrev pub whole_units : View → Level → Level → ℕ
whole_units v i l = only (is_above l i) (shared_CT v i l)

-- the short form, i ≤ m, divides nothing
abbrev pub one_units : View → Level → Level → ℕ
one_units v i l = pick (leb i.0 v.cpus) 0 (pick (is_above l i) (other_CT v i l) (only (is_above i l) (high_CT v i l)))

abbrev pub two_units : View → Level → Level → ℕ
two_units v i l = pick (leb i.0 v.cpus) 0 (only (is_above l i) (v.C l - all_CT v l))

abbrev pub share_of : View → Level → Level → Share
share_of v i l = record { period = v.T l; deadline = v.D l; whole = whole_units v i l; one = one_units v i l; two = two_units v i l }

-- ---- what `shares_of` answers of the task at slot i

-- C, C + DB (no more than it can be of an accepted table), m, n, and the share of each task; past the nth nothing
unfoldable pub table_shares : View → Level → Shares
table_shares v i =
    record {
      start = v.C i;
      base = v.C i + min max_wait (DB v i);
      cpus = v.cpus;
      n = v.n;
      of = row_to max_tasks (λ l. pick (ltb l v.n) (share_of v i (level l)) no_share);
    }

unfoldable pub no_shares : Shares
no_shares = record { start = 0; base = 0; cpus = 0; n = 0; of = replicate max_tasks no_share }

-- nothing where there is no such task, or more tasks than there may be
unfoldable pub shares_of : Table → ℕ → Shares
shares_of t i = pick (ltb i t.n && leb t.n max_tasks) (table_shares (view_of t) (level i)) no_shares
