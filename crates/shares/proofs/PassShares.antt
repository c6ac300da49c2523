-- The shares that the passes over the tasks make are those of the definitions.
-- Assumes nothing.
use Prim.Native.Nat.{ℕ, ◌+◌, ◌-◌, ◌≤◌, ◌<◌}
use mathlib.Core.Path.{◌≡◌, refl, ap, ◌∙◌}
use mathlib.Core.Bool.{Bool, true, false}
use native.Mathlib.Nat.{le_refl}
use native.Mathlib.Decide.{ℕ_discrete, dec_lt}
use native.Mathlib.Numerals.{add-one}
use native.Mathlib.Omega.{arith}
use borrow.Author.Tests.{lt-ltb, le-ltb}
use lib.Dec.{leb, ltb}
use mathlib.Core.List.{List}
use lib.ListN.{set, replicate, get_or-replicate}
use lib.Seq.{get_or-set_same, get_or-set_other}
use Rattle.basics.specs.Choice.{pick, only}
use Rattle.basics.specs.Over.{row_to}
use Rattle.basics.proofs.SumLaws.{sum_eq}
use Rattle.basics.proofs.RowLaws.{row_is}
use Rattle.table.specs.declared.Table.{Table}
use Rattle.table.specs.Limits.{max_tasks, max_resources}
use Rattle.table.specs.At.{task_at}
use Rattle.table.specs.declared.Level.{Level}
use Rattle.theory.specs.View.{View, level, resource}
use Rattle.theory.specs.Demand.{shared_CT, other_CT, all_CT, high_CT}
use Rattle.theory.proofs.PassLaws.{split_all}
use Rattle.rounds.specs.declared.Share.{Share}
use Rattle.theory.specs.Tables.{view_of}
use Rattle.rounds.specs.Shares.{no_share, share_in}
use Rattle.shares.specs.Cutting.{share_of}
use Rattle.shares.specs.Pass.{marked_sum, total_sum, UsedBy, UpperIs, LowerIs, SharesAbove, SharesBelow}
use Rattle.shares.proofs.ShareLaws.{ShareIs, share_eq}
use Rattle.shares.proofs.CeilingLaws.{AboveIs}

pick_zero : (b : Bool) → pick {A = ℕ} b 0 0 ≡ 0
pick_zero true = refl
pick_zero false = refl

-- the code's test of the short form
abbrev pub short : Table → ℕ → Bool
short t i = leb (i + 1) t.cpus

module _ (t : Table) (i l : ℕ) where
  abbrev v : View
  v = view_of t

  shared_is : (m : List Bool) → UsedBy (task_at t i) m → marked_sum m (task_at t l) ≡ shared_CT v (level i) (level l)
  unfolding shared_CT
  shared_is m is = sum_eq max_resources _ _ (λ k h. ap (λ (b : Bool). only b (v.CT (level l) (resource k))) (is.each k h))

  high_is : (m : List Bool) → AboveIs t i m → marked_sum m (task_at t l) ≡ high_CT v (level i) (level l)
  unfolding high_CT
  high_is m is = sum_eq max_resources _ _ (λ k h. ap (λ (b : Bool). only b (v.CT (level l) (resource k))) (is k h))

  all_is : total_sum (task_at t l) ≡ all_CT v (level l)
  unfolding all_CT
  all_is = refl

  short_is : leb (level i).0 t.cpus ≡ short t i
  short_is = rw add-one

  upper_is : (m : List Bool) (e : Share) → l < i → UsedBy (task_at t i) m → UpperIs m (task_at t l) (short t i) e → ShareIs v (level i) (level l) e
  upper_is m e h is u =
      let s = shared_is m is in
      let on = lt-ltb (level l).0 (level i).0 (omega arith) in
      let other : total_sum (task_at t l) - marked_sum m (task_at t l) ≡ other_CT v (level i) (level l) =
      omega (arith, s, all_is, split_all v (level i) (level l)) in
      record {
        period = u.period;
        deadline = u.deadline;
        whole = rw on (u.whole ∙ s);
        one = rw (on, short_is) (u.one ∙ ap (pick (short t i) 0) other);
        two = rw (on, short_is) (u.two ∙ ap (λ (n : ℕ). pick (short t i) 0 (v.C (level l) - n)) all_is);
      }

  lower_is : (m : List Bool) (e : Share) → i < l → AboveIs t i m → LowerIs m (task_at t l) (short t i) e → ShareIs v (level i) (level l) e
  lower_is m e h is u =
      let off = le-ltb (level l).0 (level i).0 (omega arith) in
      let on = lt-ltb (level i).0 (level l).0 (omega arith) in
      record {
        period = u.period;
        deadline = u.deadline;
        whole = rw off u.whole;
        one = rw (off, on, short_is) (u.one ∙ ap (pick (short t i) 0) (high_is m is));
        two = rw (off, pick_zero) u.two;
      }

-- a task's own share is empty
own_is : (t : Table) (i : ℕ) (m : List Bool) (e : Share) → LowerIs m (task_at t i) true e → ShareIs (view_of t) (level i) (level i) e
own_is t i m e u =
    let off = le-ltb (level i).0 (level i).0 (le_refl _) in
    record {
      period = u.period;
      deadline = u.deadline;
      whole = rw off u.whole;
      one = rw (off, pick_zero) u.one;
      two = rw (off, pick_zero) u.two;
    }

-- the row of both passes, with the task's own share between them
module _ (t : Table) (i : ℕ) (mine above : List Bool) (up down : List Share) (known : List Level) (longest : List ℕ) (e : Share) (few : t.n ≤ max_tasks) (there : i < t.n) (m : UsedBy (task_at t i) mine) (a : AboveIs t i above) (u : SharesAbove t i mine (short t i) (replicate max_tasks no_share) up known) (o : LowerIs above (task_at t i) true e) (d : SharesBelow t i above (short t i) (set up i e) down longest) where
  shares_are : (l : ℕ) → l < t.n → ShareIs (view_of t) (level i) (level l) (share_in down l)
  shares_are l q = side (dec_lt i l) (ℕ_discrete l i)
    where
      side : Dec (i < l) → Dec (l ≡ i) → ShareIs (view_of t) (level i) (level l) (share_in down l)
      side (yes b) p = lower_is t i l above _ b a (d.each l b q)
      side (no b) (yes p) = rw (p, d.kept i (le_refl i), get_or-set_same up i e no_share (omega (arith, u.long))) (own_is t i above e o)
      side (no b) (no p) =
          rw (d.kept l (omega arith), get_or-set_other up i l e no_share p) (upper_is t i l mine _ (omega arith) m (u.each l (omega arith)))

  pub row_made : down ≡ row_to max_tasks (λ l. pick (ltb l t.n) (share_of (view_of t) (level i) (level l)) no_share)
  row_made = row_is max_tasks _ no_share down d.long (λ l h. slot l h (dec_lt l t.n))
    where
      slot : (l : ℕ) → l < max_tasks → Dec (l < t.n) → share_in down l ≡ pick (ltb l t.n) (share_of (view_of t) (level i) (level l)) no_share
      slot l h (yes q) = rw (lt-ltb l t.n q) (share_eq (shares_are l q))
      slot l h (no q) =
          rw (le-ltb l t.n (omega arith))
          (d.rest l (omega arith) ∙ get_or-set_other up i l e no_share (λ p. omega arith) ∙ u.rest l (omega arith) ∙ get_or-replicate max_tasks l no_share no_share h)
