-- `shares::shares_of` meets its contract. Both passes and the task's own share make the row; the longest requests below make DB. Assumes nothing.
use Rattle.std.proofs.Common.{◌≡◌, ◌+◌, ◌≤◌, ◌<◌, ◌⊎◌, ℕ, min, ap, ◌∙◌, inl, inr, arith, rules}
use mathlib.Core.Bool.{and-false}
use Rattle.std.proofs.lemmas.Bool.{lt-ltb, le-ltb, le-leb, lt-leb}
use Rattle.table.specs.Limits.{max_tasks}
use Rattle.table.specs.declared.Table.{Table}
use Rattle.theory.specs.View.{level}
use Rattle.theory.specs.Tables.{view_of}
use Rattle.rounds.specs.Shares.{no_share}
use Rattle.rounds.specs.Outcome.{max_wait}
use Rattle.shares.specs.Cutting.{no_shares, table_shares, shares_of}
use Rattle.shares.proofs.CeilingLaws.{AboveIs, ceilings_all}
use Rattle.shares.proofs.PeakLaws.{wait_is}
use Rattle.shares.proofs.PassShares.{row_made}
use Rattle.shares.proofs.shares_of.Goals as goal

-- no such task, or too many
refused : (t : Table) (i : ℕ) → (t.n ≤ i) ⊎ ((i < t.n) × (max_tasks < t.n)) → no_shares ≡ shares_of t i
unfolding shares_of
refused t i (inl h) = rw (le-ltb i t.n h)
refused t i (inr h) = rw (lt-leb t.n max_tasks h.1, and-false)

pub returns-then-t-i : goal.returns-then-t-i
unfolding no_shares
returns-then-t-i c =
    let e = c.default-of.ensures in
    let none : c.default-of.result ≡ no_share = search rules in
    rw none (refused c.args.t c.args.i c.then-t-i.either)

pub returns : goal.returns
unfolding shares_of table_shares
returns c =
    let a = c.args in
    let e = c.default-of.ensures in
    let none : c.default-of.result ≡ no_share = search rules in
    let there : a.i < a.t.n = omega arith in
    let few : a.t.n ≤ max_tasks = omega arith in
    let up = rw none at c.shares_above-ceilings.ensures in
    let down = c.shares_below-peaks in
    let above : AboveIs a.t a.i c.high-above.result =
    ceilings_all a.t a.i c.shares_above-ceilings.result c.raise_ceilings.new.known c.high-above.result (omega arith) up.ceilings c.raise_ceilings.ensures c.high-above.ensures in
    let of = row_made a.t a.i c.used_by-mine.result c.high-above.result c.shares_above-ceilings.new.row down.new.row c.shares_above-ceilings.result down.result c.lower.result
    few there c.used_by-mine.ensures above up c.lower.ensures down.ensures in
    let base = c.base.ensures ∙ ap (λ (w : ℕ). (view_of a.t).C (level a.i) + min max_wait w) (wait_is a.t a.i down.result down.ensures.peaks) in
    rw (lt-ltb a.i a.t.n there, le-leb a.t.n max_tasks few)
    (λ j. record { start = (view_of a.t).C (level a.i); base = base j; cpus = c.from.ensures j; n = a.t.n; of = of j })
