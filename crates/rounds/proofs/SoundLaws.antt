-- Shares are sound exactly if the test of them holds.
-- Assumes nothing.
use Prim.Native.Nat.{ℕ, zero, suc, ◌+◌, ◌≤◌}
use Rattle.std.proofs.Common.{List, length, take, refl, arith}
use Rattle.std.specs.List.{list_all}
use Rattle.std.proofs.lemmas.List.Folds.{list_all_more}
use mathlib.Core.Path.{◌≡◌}
use mathlib.Core.Bool.{Bool, true, false}
use lib.Dec.{leb}
use borrow.Author.Tests.{leb-true, le-leb}
use Rattle.basics.specs.Choice.{within}
use Rattle.basics.specs.Over.{all_to}
use Rattle.basics.proofs.ChoiceLaws.{and_true, within_in, within_true}
use Rattle.basics.proofs.AllLaws.{all_at, all_hold}
use Rattle.table.specs.Limits.{max_cpus, max_tasks, max_time}
use Rattle.rounds.specs.declared.Share.{Share}
use Rattle.rounds.specs.declared.Shares.{Shares}
use Rattle.rounds.specs.Shares.{no_share, share_in, share_at}
use Rattle.rounds.specs.Outcome.{max_base, share_fits, head_fits, is_sound, Sound, SoundShare, SoundHead, SoundShares}

fits_sound : (e : Share) → share_fits e ≡ true → SoundShare e
unfolding share_fits
fits_sound e h =
    let a = and_true _ (leb e.two e.deadline) h in
    let b = and_true _ (leb e.one e.deadline) a.0 in
    let c = and_true _ (leb e.whole e.deadline) b.0 in
    let d = and_true (within 1 max_time e.period) (leb e.deadline e.period) c.0 in
    let w = within_true 1 max_time e.period d.0 in
    let sound : (x : ℕ) → leb x e.deadline ≡ true → Sound e.period e.deadline x =
    λ x q. record { period_least = w.0; units_deadline = leb-true _ _ q; deadline_period = leb-true _ _ d.1; period_most = w.1 } in
    record { whole = sound e.whole c.1; one = sound e.one b.1; two = sound e.two a.1 }

sound_fits : (e : Share) → SoundShare e → share_fits e ≡ true
unfolding share_fits
sound_fits e g =
    let s = g.whole in
    rw (
      within_in 1 max_time e.period s.period_least s.period_most,
      le-leb _ _ s.deadline_period,
      le-leb _ _ s.units_deadline,
      le-leb _ _ g.one.units_deadline,
      le-leb _ _ g.two.units_deadline,
    )

head : (start base cpus n D : ℕ) → head_fits start base cpus n D ≡ true → SoundHead start base cpus n D
unfolding head_fits
head start base cpus n D h =
    let a = and_true _ (within start max_time D) h in
    let b = and_true _ (leb n max_tasks) a.0 in
    let c = and_true _ (within 1 max_cpus cpus) b.0 in
    let d = and_true (within 1 base start) (leb base max_base) c.0 in
    let e = within_true 1 base start d.0 in
    let m = within_true 1 max_cpus cpus c.1 in
    let l = within_true start max_time D a.1 in
    record {
      start_least = e.0;
      start_base = e.1;
      base_most = leb-true _ _ d.1;
      cpus_least = m.0;
      cpus_most = m.1;
      tasks_most = leb-true _ _ b.1;
      start_deadline = l.0;
      deadline_most = l.1;
    }

pub head_tasks : (s : Shares) (D : ℕ) → head_fits s.start s.base s.cpus s.n D ≡ true → s.n ≤ max_tasks
head_tasks s D h = (head _ _ _ _ D h).tasks_most

-- the test by its two parts
module _ (s : Shares) (D : ℕ) where
  pub sound_head : head_fits s.start s.base s.cpus s.n D ≡ false → is_sound s D ≡ false
  unfolding is_sound
  sound_head e = rw e

  pub sound_all : {b : Bool} → head_fits s.start s.base s.cpus s.n D ≡ true → all_to s.n (λ l. share_fits (share_at s l)) ≡ b → is_sound s D ≡ b
  unfolding is_sound
  sound_all e f = rw e f

pub test_sound : (s : Shares) (D : ℕ) → is_sound s D ≡ true → SoundShares s D
unfolding is_sound
test_sound s D e =
    let p = and_true (head_fits s.start s.base s.cpus s.n D) (all_to s.n (λ l. share_fits (share_at s l))) e in
    let h = head _ _ _ _ D p.0 in
    record { head = h; row = record { tasks_most = h.tasks_most; each = λ l q. fits_sound _ (all_at s.n l _ p.1 q) } }

pub sound_test : (s : Shares) (D : ℕ) → SoundShares s D → is_sound s D ≡ true
unfolding is_sound head_fits
sound_test s D g =
    let h = g.head in
    rw (
      within_in 1 s.base s.start h.start_least h.start_base,
      le-leb _ _ h.base_most,
      within_in 1 max_cpus s.cpus h.cpus_least h.cpus_most,
      le-leb _ _ h.tasks_most,
      within_in s.start max_time D h.start_deadline h.deadline_most,
      all_hold s.n (λ l. share_fits (share_at s l)) (λ l q. sound_fits _ (g.row.each l q)),
    )

-- the test over the first n shares, as the library says it of a slice
pub all_shares : (xs : List Share) (n : ℕ) → n ≤ length xs → list_all share_fits (take n xs) ≡ all_to n (λ l. share_fits (share_in xs l))
unfolding all_to
all_shares xs zero h = refl
all_shares xs (suc n) h =
    let e : suc n ≡ n + 1 = omega arith in
    rw (e, list_all_more share_fits xs n no_share h, all_shares xs n (omega arith))
