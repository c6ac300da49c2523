-- Packing: what a part that is stored at the end of a row adds to it, and what the rows come to.
-- Assumes nothing.
use Rattle.std.proofs.Common.{ℕ, zero, suc, ◌+◌, ◌-◌, ◌≤◌, ◌<◌, ◌≡◌, List, length, set, take, get_or, sym, ap, ◌∙◌, arith}
use Rattle.std.proofs.Math.Nat.{not-suc-le-zero}
use Rattle.std.proofs.lemmas.List.{get_or-take}
use Rattle.std.proofs.lemmas.Grind.{common_steps}
use Rattle.basics.proofs.SumLaws.{sum_none, sum_more}
use Rattle.theory.specs.Work.{uncapped, workload}
use Rattle.theory.proofs.WorkLaws.{workload_none}
use Rattle.rounds.specs.declared.Part.{Part}
use Rattle.rounds.specs.declared.Parts.{Parts}
use Rattle.rounds.specs.declared.Share.{Share}
use Rattle.rounds.specs.declared.Shares.{Shares}
use Rattle.rounds.specs.Shares.{no_share, share_at}
use Rattle.rounds.specs.Parts.{part_load, loads, PartIs, PartsAre}

load_is : {T D x : ℕ} (t : ℕ) {e : Part} → 1 ≤ t → x ≤ D → PartIs T D x e → part_load e t ≡ workload T D t x
unfolding workload uncapped
load_is zero h k p = absurd (not-suc-le-zero h)
load_is {D} {x} (suc t) {e} h k p =
    let o : suc t + e.off ≡ suc t + D - x = omega (arith, p.off) in
    rw (p.period, p.units, o)

last : (xs : List Part) (n t : ℕ) (e : Part) → n < length xs → loads (set xs n e) (n + 1) t ≡ loads xs n t + part_load e t
last xs n t e h = grind (arith, common_steps)

-- x units of a task, stored at the end
pub load_more : {T D x : ℕ} (xs : List Part) (n t : ℕ) {e : Part} → n < length xs → x ≤ D → PartIs T D x e → 1 ≤ t
    → loads (set xs n e) (n + 1) t ≡ loads xs n t + workload T D t x
load_more xs n t {e} h k p g = last xs n t e h ∙ ap (λ (w : ℕ). loads xs n t + w) (load_is t g k p)

-- no units add nothing
pub load_same : (T D : ℕ) {x : ℕ} (xs : List Part) (n t : ℕ) → x ≤ 0 → loads xs n t ≡ loads xs n t + workload T D t x
load_same T D {x} xs n t h =
    let e : x ≡ 0 = omega arith in
    rw e (omega (arith, workload_none T D t))

-- ---- the shares, one after the other

-- the share that the loop over the first n has
pub share_here : (s : Shares) (k : ℕ) → k < s.n → get_or (take s.n s.of) k no_share ≡ share_at s k
share_here s k h = get_or-take s.n s.of k no_share h

pub parts_none : {N : ℕ} {r : Parts N} (s : Shares) (f : Share → ℕ → ℕ) → r.n ≡ 0 → PartsAre s 0 f r
parts_none s f e = record { are = λ t h. rw e (sum_none (λ l. f (share_at s l) t)) }

pub parts_more : {N k : ℕ} {r r' : Parts N} (s : Shares) (f : Share → ℕ → ℕ) → PartsAre s k f r
    → ((t : ℕ) → 1 ≤ t → loads r'.of r'.n t ≡ loads r.of r.n t + f (share_at s k) t) → PartsAre s (k + 1) f r'
parts_more {k} s f p q =
    record { are = λ t h. q t h ∙ ap (λ (x : ℕ). x + f (share_at s k) t) (p.are t h) ∙ sym (sum_more k (λ l. f (share_at s l) t)) }
