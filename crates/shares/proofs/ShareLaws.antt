-- The shares of a table as relations: what each number of them is.
-- Assumes nothing.
use Prim.Native.Nat.{ℕ, ◌+◌, ◌<◌}
use mathlib.Core.Path.{◌≡◌, ap}
use Rattle.table.specs.declared.Level.{Level}
use Rattle.theory.specs.View.{View, level}
use Rattle.theory.specs.Demand.{DB}
use Rattle.rounds.specs.declared.Share.{Share}
use Rattle.rounds.specs.declared.Shares.{Shares}
use Rattle.rounds.specs.Shares.{share_at}
use Rattle.rounds.specs.Outcome.{SoundShares}
use Rattle.shares.specs.Cutting.{whole_units, one_units, two_units, share_of}

pub record ShareIs (v : View) (i l : Level) (e : Share) : Type 0 where
  pub period : e.period ≡ v.T l
  pub deadline : e.deadline ≡ v.D l
  pub whole : e.whole ≡ whole_units v i l
  pub one : e.one ≡ one_units v i l
  pub two : e.two ≡ two_units v i l

pub share_eq : {v : View} {i l : Level} {e : Share} → ShareIs v i l e → e ≡ share_of v i l
share_eq s = λ j. record { period = s.period j; deadline = s.deadline j; whole = s.whole j; one = s.one j; two = s.two j }

pub share_is : {v : View} {i l : Level} {e : Share} → e ≡ share_of v i l → ShareIs v i l e
share_is p =
    record {
      period = ap (λ (e : Share). e.period) p;
      deadline = ap (λ (e : Share). e.deadline) p;
      whole = ap (λ (e : Share). e.whole) p;
      one = ap (λ (e : Share). e.one) p;
      two = ap (λ (e : Share). e.two) p;
    }

pub record SharesAre (v : View) (i : Level) (s : Shares) : Type 0 where
  pub start : s.start ≡ v.C i
  pub base : s.base ≡ v.C i + DB v i
  pub cpus : s.cpus ≡ v.cpus
  pub n : s.n ≡ v.n
  pub each : (l : ℕ) → l < v.n → ShareIs v i (level l) (share_at s l)

pub record Reduced (v : View) (i : Level) (s : Shares) : Type 0 where
  pub are : SharesAre v i s
  pub sound : SoundShares s (v.D i)
