-- The shares of a table in bounds are sound, since what counts of a task is at most its C.
-- Assumes nothing.
use Prim.Native.Nat.{ℕ, ◌≤◌, ◌<◌}
use mathlib.Core.Path.{◌≡◌, refl, ◌∙◌}
use mathlib.Core.Bool.{Bool, true, false, not}
use native.Mathlib.Nat.{le_trans}
use native.Mathlib.Omega.{arith}
use lib.Dec.{leb}
use borrow.Author.Tests.{lt-ltb, le-leb}
use Rattle.basics.specs.Choice.{pick, only}
use Rattle.basics.specs.Over.{sum_to}
use Rattle.basics.proofs.ChoiceLaws.{only_below}
use Rattle.basics.proofs.SumLaws.{sum_le}
use Rattle.basics.proofs.RowLaws.{row_at}
use Rattle.table.specs.declared.Table.{Table}
use Rattle.table.specs.Limits.{max_tasks, max_resources}
use Rattle.table.specs.At.{task_at, total_of}
use Rattle.theory.specs.View.{level, resource, is_above, uses, ceiling}
use Rattle.theory.specs.Demand.{shared_CT, other_CT, high_CT}
use Rattle.rounds.specs.declared.Share.{Share}
use Rattle.theory.specs.Groups.{TaskInBounds, InBounds}
use Rattle.theory.specs.Tables.{view_of}
use Rattle.rounds.specs.Outcome.{Sound, SoundShare, SoundShares}
use Rattle.rounds.specs.Shares.{no_share}
use Rattle.shares.specs.Cutting.{whole_units, one_units, two_units, table_shares, shares_of}
use Rattle.shares.proofs.ShareLaws.{ShareIs, share_is, SharesAre, Reduced}
use Rattle.shares.proofs.PeakLaws.{wait_most}

pick_le : (b : Bool) (x y n : ℕ) → x ≤ n → y ≤ n → pick b x y ≤ n
pick_le true x y n h k = h
pick_le false x y n h k = k

module _ (t : Table) (i l : ℕ) (g : TaskInBounds (task_at t l)) where
  marked_run : (p : ℕ → Bool) → sum_to max_resources (λ k. only (p k) (total_of (task_at t l) k)) ≤ (task_at t l).run
  marked_run p = le_trans (sum_le max_resources _ _ (λ k _. only_below (p k) (total_of (task_at t l) k))) g.totals

  whole_run : whole_units (view_of t) (level i) (level l) ≤ (task_at t l).run
  unfolding shared_CT
  whole_run = le_trans (only_below (is_above (level l) (level i)) _) (marked_run (λ k. uses (view_of t) (level i) (resource k)))

  one_run : one_units (view_of t) (level i) (level l) ≤ (task_at t l).run
  unfolding other_CT high_CT
  one_run =
      let v = view_of t in
      pick_le (leb (level i).0 t.cpus) 0 _ _ (omega arith)
      (pick_le (is_above (level l) (level i)) _ _ _ (marked_run (λ k. not (uses v (level i) (resource k))))
      (le_trans (only_below (is_above (level i) (level l)) _) (marked_run (λ k. is_above (ceiling v (resource k)) (level i)))))

  two_run : two_units (view_of t) (level i) (level l) ≤ (task_at t l).run
  two_run =
      pick_le (leb (level i).0 t.cpus) 0 _ _ (omega arith) (le_trans (only_below (is_above (level l) (level i)) _) (omega arith))

  units_sound : (T D x u : ℕ) → T ≡ (task_at t l).period → D ≡ (task_at t l).deadline → x ≡ u → u ≤ (task_at t l).run → Sound T D x
  units_sound T D x u p d e h = omega (arith, g.times)

  share_sound : (e : Share) → ShareIs (view_of t) (level i) (level l) e → SoundShare e
  share_sound e s =
      record {
        whole = units_sound _ _ _ _ s.period s.deadline s.whole whole_run;
        one = units_sound _ _ _ _ s.period s.deadline s.one one_run;
        two = units_sound _ _ _ _ s.period s.deadline s.two two_run;
      }

-- the shares of a task of it
module _ (t : Table) (i : ℕ) (a : InBounds t) (h : i < t.n) where
  pub shares_there : shares_of t i ≡ table_shares (view_of t) (level i)
  unfolding shares_of
  shares_there = rw (lt-ltb i t.n h, le-leb t.n max_tasks a.tasks_most)

  are : SharesAre (view_of t) (level i) (table_shares (view_of t) (level i))
  unfolding table_shares
  are =
      record {
        start = refl;
        base = omega (arith, wait_most t i a h);
        cpus = refl;
        n = refl;
        each = λ l q. share_is (row_at max_tasks l _ no_share (omega (arith, a.tasks_most)) ∙ rw (lt-ltb l t.n q));
      }

  sound : SoundShares (table_shares (view_of t) (level i)) ((view_of t).D (level i))
  unfolding table_shares
  sound =
      let g = (a.task i h).times in
      record {
        head = record {
          start_least = g.run_least;
          start_base = omega arith;
          base_most = omega (arith, g);
          cpus_least = a.cpus_least;
          cpus_most = a.cpus_most;
          tasks_most = a.tasks_most;
          start_deadline = g.run_deadline;
          deadline_most = omega (arith, g);
        };
        row = record { tasks_most = a.tasks_most; each = λ l q. share_sound t i l (a.task l q) _ (are.each l q) };
      }

  pub reduced : Reduced (view_of t) (level i) (shares_of t i)
  reduced = rw shares_there (record { are = are; sound = sound })
