-- The longest requests that the pass keeps: those of the tasks below i, and DB of them.
-- Assumes nothing.
use Prim.Native.Nat.{ℕ, ◌+◌, ◌*◌, ◌≤◌, ◌<◌, max}
use mathlib.Core.Path.{◌≡◌, ap, ◌∙◌}
use mathlib.Core.List.{List}
use native.Mathlib.Nat.{le_refl, le_trans, mul-le-mul}
use native.Mathlib.Omega.{arith}
use borrow.Author.Tests.{lt-ltb}
use lib.ListN.{replicate, get_or-replicate}
use Rattle.basics.specs.Choice.{only}
use Rattle.basics.specs.Over.{sum_to}
use Rattle.basics.proofs.ChoiceLaws.{only_below}
use Rattle.basics.proofs.SumLaws.{sum_le, sum_eq, sum_scale}
use Rattle.basics.proofs.MaxLaws.{max_more, max_bound}
use Rattle.table.specs.declared.Table.{Table}
use Rattle.table.specs.Limits.{max_resources, max_time}
use Rattle.table.specs.At.{task_at, pair_at}
use Rattle.theory.specs.View.{level, resource, is_above, largest_below, uses}
use Rattle.theory.specs.Demand.{DB}
use Rattle.theory.proofs.PassLaws.{largest_none, where_used}
use Rattle.rounds.specs.Outcome.{max_wait}
use Rattle.theory.specs.Groups.{InBounds}
use Rattle.theory.specs.Tables.{view_of}
use Rattle.shares.specs.Pass.{wait_at, RaisedBy, PeaksTo}

pub peaks_none : (t : Table) (i : ℕ) → PeaksTo t i (i + 1) (replicate max_resources 0)
peaks_none t i k q = get_or-replicate max_resources k 0 0 q ∙ largest_none i (λ l. (view_of t).c l (resource k))

pub peaks_more : (t : Table) (i j : ℕ) (m r : List ℕ) → i < j → PeaksTo t i j m → RaisedBy m (task_at t j) r → PeaksTo t i (j + 1) r
peaks_more t i j m r h is w k q =
    w.each k q
    ∙ rw (max_more, lt-ltb (level i).0 (level j).0 (omega arith)) (ap (λ (x : ℕ). max x (pair_at t j k).longest) (is k q))

pub wait_is : (t : Table) (i : ℕ) (m : List ℕ) → PeaksTo t i t.n m → sum_to max_resources (wait_at m (task_at t i)) ≡ DB (view_of t) (level i)
unfolding DB
wait_is t i m is =
    let v = view_of t in
    sum_eq max_resources _ _
    (λ k h.
    ap (λ (x : ℕ). v.N (level i) (resource k) * x) (is k h)
    ∙ where_used (v.N (level i) (resource k)) (largest_below v (level i) (λ l. v.c l (resource k))))

-- ---- of a table in bounds DB is no more than it may be: its task asks for its locks so often, for all of them together, and waits for each no longer than the longest time

module _ (t : Table) (i : ℕ) (a : InBounds t) (h : i < t.n) where
  longest_time : (k : ℕ) → k < max_resources → largest_below (view_of t) (level i) (λ l. (view_of t).c l (resource k)) ≤ max_time
  longest_time k q =
      max_bound t.n max_time _
      (λ l p. omega (arith, only_below (is_above (level i) (level l)) (pair_at t l k).longest, (a.task l p).longest k q))

  pub wait_most : DB (view_of t) (level i) ≤ max_wait
  unfolding DB
  wait_most =
      let N : ℕ → ℕ = λ k. (pair_at t i k).requests in
      omega (
        arith,
        sum_le max_resources
            (λ k. only (uses (view_of t) (level i) (resource k)) (N k * largest_below (view_of t) (level i) (λ l. (view_of t).c l (resource k))))
            (λ k. max_time * N k)
            (λ k q. le_trans (only_below (uses (view_of t) (level i) (resource k)) _) (le_trans (mul-le-mul (le_refl (N k)) (longest_time k q)) (omega arith))),
        sum_scale max_resources max_time N,
        (a.task i h).requests,
      )
