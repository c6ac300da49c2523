-- One request of a job: of the lower jobs that hold its lock while it waits, all are one job, inside one request.
-- Assumes nothing.
use Prim.Native.Nat.{ℕ, zero, suc, ◌+◌, ◌≤◌, ◌<◌}
use mathlib.Core.Path.{◌≡◌, refl, sym, subst, ap, ◌∙◌}
use mathlib.Core.Bool.{Bool, true, false, not}
use native.Mathlib.Omega.{arith}
use borrow.Author.Tests.{eq-eqb}
use Rattle.basics.specs.Choice.{pick}
use Rattle.basics.specs.Over.{sum_to}
use Rattle.basics.proofs.ChoiceLaws.{passes}
use Rattle.basics.proofs.OnceLaws.{both}
use Rattle.theory.specs.View.{View}
use Rattle.schedules.specs.Jobs.{JobSet, stretch, Generated}
use Rattle.schedules.specs.Schedule.{Schedule, Progress, progress, needs, begins, waits_for, got_after}
use Rattle.schedules.proofs.FactLaws.{Obeys, WaitsFor, waits_for_lem}
use Rattle.schedules.proofs.ProgressLaws.{stay, moved, job_rises, unit_below}

module _ (v : View) (J : JobSet) (S : Schedule) (E : ℕ) (o : Generated v J) (p : Obeys v J S E) where
  -- the stretch that the task is in
  abbrev pub at_stretch : ℕ → ℕ → ℕ
  at_stretch s l = stretch J l (progress J S s l).job (progress J S s l).unit

  -- who is inside a request has its lock
  pub inside : (s l : ℕ) → s < E → l < v.n → 0 < needs J S s l → begins J S s l ≡ false → S.holds s l ≡ true
  unfolding progress
  inside zero l b h n e = both (o.first l 0 h) e
  inside (suc s) l b h n e = go (S.runs s l) refl (inside s l (omega arith) h)
    where
      go : (c : Bool) → S.runs s l ≡ c → (0 < needs J S s l → begins J S s l ≡ false → S.holds s l ≡ true) → S.holds (suc s) l ≡ true
      go true r ih = p.kept_on s l b h r n e
      go false r ih =
          let q : progress J S (suc s) l ≡ progress J S s l = stay J S s l r in
          p.kept s l b h (ih (subst (λ (x : Progress). 0 < J.lock l x.job x.unit) q n) (subst (λ (x : Progress). J.starts l x.job x.unit ≡ false) q e)) r

  -- from one unit of a stretch to the next, the lock is the same
  same_lock : (s h : ℕ) → h < v.n → S.runs s h ≡ true → progress J S (suc s) h ≡ record { job = (progress J S s h).job; unit = suc (progress J S s h).unit }
      → begins J S (suc s) h ≡ false → needs J S (suc s) h ≡ needs J S s h
  same_lock s h m r q x =
      let a = progress J S s h in
      let below : suc a.unit < J.cost h a.job = subst (λ (z : Progress). z.unit < J.cost h z.job) q (unit_below J S h (λ j. o.some h j m) (suc s)) in
      let nf : J.starts h a.job (suc a.unit) ≡ false = subst (λ (z : Progress). J.starts h z.job z.unit ≡ false) q x in
      ap (λ (z : Progress). J.lock h z.job z.unit) q ∙ o.same h a.job a.unit m below nf

  -- ---- the request of job j of task i at its unit u, which is once seen waiting for h₀, at the stretch q₀ of its job j₀

  module _ (i j u h₀ j₀ q₀ : ℕ) (l : i < v.n) where
    pub record Same (s h : ℕ) : Type 0 where
      pub task : h ≡ h₀
      pub job : (progress J S s h).job ≡ j₀
      pub inside_it : at_stretch s h ≡ q₀

    pub record Still (s : ℕ) : Type 0 where
      pub asking : S.asked s i ≡ true
      pub lacking : S.holds s i ≡ false
      pub lower : (h : ℕ) → h < v.n → i < h → waits_for J S s i h ≡ true → Same s h

    pub data Stage (s : ℕ) : Type 0 where
      later : j < (progress J S s i).job → Stage s
      past : (progress J S s i).job ≡ j → u < (progress J S s i).unit → Stage s
      has : (progress J S s i).job ≡ j → (progress J S s i).unit ≡ u → S.holds s i ≡ true → Stage s
      still : (progress J S s i).job ≡ j → (progress J S s i).unit ≡ u → 0 < needs J S s i → Still s → Stage s

    -- it did not move
    unmoved : (s h : ℕ) → S.runs s h ≡ false → Same s h → Same (suc s) h
    unmoved s h r y =
        let q : progress J S (suc s) h ≡ progress J S s h = stay J S s h r in
        record { task = y.task; job = ap (λ (z : Progress). z.job) q ∙ y.job; inside_it = ap (λ (z : Progress). stretch J h z.job z.unit) q ∙ y.inside_it }

    -- it went on within its stretch
    went_on : (s h : ℕ) → begins J S (suc s) h ≡ false → progress J S (suc s) h ≡ record { job = (progress J S s h).job; unit = suc (progress J S s h).unit } → Same s h → Same (suc s) h
    unfolding sum_to
    went_on s h x q y =
        let a = progress J S s h in
        let nf : J.starts h a.job (suc a.unit) ≡ false = subst (λ (z : Progress). J.starts h z.job z.unit ≡ false) q x in
        let rq : stretch J h a.job (suc a.unit) ≡ stretch J h a.job a.unit = rw nf (omega arith) in
        record { task = y.task; job = ap (λ (z : Progress). z.job) q ∙ y.job; inside_it = ap (λ (z : Progress). stretch J h z.job z.unit) q ∙ rq ∙ y.inside_it }

    -- who is lower, has the lock at the next instant and did not get it then, has had it
    had : (s h : ℕ) → suc s < E → h < v.n → i < h → Still s → S.runs s i ≡ false → waits_for J S (suc s) i h ≡ true → got_after J S s h ≡ false → Same (suc s) h
    unfolding got_after
    had s h b m g w n e k = go (S.runs s h) refl k
      where
        f : WaitsFor J S (suc s) i h
        f = waits_for_lem J S (suc s) i h e

        need : needs J S s i ≡ needs J S (suc s) h
        need = subst (λ (x : Progress). J.lock i x.job x.unit ≡ needs J S (suc s) h) (stay J S s i n) f.needing

        before : S.holds s h ≡ true → needs J S (suc s) h ≡ needs J S s h → Same s h
        before x y = w.lower h m g (rw (w.asking, w.lacking, x) (eq-eqb (needs J S s i) (needs J S s h) (need ∙ y)))

        go : (c : Bool) → S.runs s h ≡ c → pick c (begins J S (suc s) h) (not (S.holds s h)) ≡ false → Same (suc s) h
        go false r x = unmoved s h r (before (passes refl x) (ap (λ (z : Progress). J.lock h z.job z.unit) (stay J S s h r)))
        go true r x =
            moved J S s h r (Same (suc s) h)
            (λ q. let lk = same_lock s h m r q x in
            went_on s h x q (before (p.locks s h (omega arith) m r (subst (λ (z : ℕ). 0 < z) lk (p.holder_needs (suc s) h b m f.holding))) lk))
            (λ q. both (o.first h (suc (progress J S s h).job) m) (subst (λ (z : Progress). J.starts h z.job z.unit ≡ false) q x))

    -- its unit is run: it is past it, or at a later job
    gone : (s : ℕ) → (progress J S s i).job ≡ j → u ≤ (progress J S s i).unit → S.runs s i ≡ true → Stage (suc s)
    gone s a c r = moved J S s i r (Stage (suc s)) (λ q. past (ap (λ (z : Progress). z.job) q ∙ a) (omega (arith, ap (λ (z : Progress). z.unit) q))) (λ q. later (omega (arith, ap (λ (z : Progress). z.job) q)))

    next : (s : ℕ) → suc s < E → Stage s → Stage (suc s)
    next s b (later a) = later (omega (arith, job_rises J S i (λ j. o.some i j l) s (suc s) (omega arith)))
    next s b (past a c) = go (S.runs s i) refl
      where
        go : (d : Bool) → S.runs s i ≡ d → Stage (suc s)
        go true r = gone s a (omega arith) r
        go false r = let q = stay J S s i r in past (ap (λ (z : Progress). z.job) q ∙ a) (omega (arith, ap (λ (z : Progress). z.unit) q))
    next s b (has a c d) = go (S.runs s i) refl
      where
        go : (e : Bool) → S.runs s i ≡ e → Stage (suc s)
        go true r = gone s a (omega arith) r
        go false r = let q = stay J S s i r in has (ap (λ (z : Progress). z.job) q ∙ a) (ap (λ (z : Progress). z.unit) q ∙ c) (p.kept s i b l d r)
    next s b (still a c n w) = go (S.runs s i) refl
      where
        last : S.runs s i ≡ false → (h : ℕ) → h < v.n → i < h → waits_for J S (suc s) i h ≡ true → (d : Bool) → got_after J S s h ≡ d → Same (suc s) h
        last r h m g e true k = absurd (omega (arith, p.not_passed s h i b m l k w.asking r e))
        last r h m g e false k = had s h b m g w r e k

        rest : S.runs s i ≡ false → (d : Bool) → S.holds (suc s) i ≡ d → Stage (suc s)
        rest r true x = let q = stay J S s i r in has (ap (λ (z : Progress). z.job) q ∙ a) (ap (λ (z : Progress). z.unit) q ∙ c) x
        rest r false x =
            let q = stay J S s i r in
            still (ap (λ (z : Progress). z.job) q ∙ a) (ap (λ (z : Progress). z.unit) q ∙ c) (subst (λ (z : Progress). 0 < J.lock i z.job z.unit) (sym q) n)
            (record { asking = p.asks_on s i b l w.asking r; lacking = x; lower = λ h m g e. last r h m g e (got_after J S s h) refl })

        go : (d : Bool) → S.runs s i ≡ d → Stage (suc s)
        go true r = both (p.locks s i (omega arith) l r n) w.lacking
        go false r = rest r (S.holds (suc s) i) refl

    pub staged : (B d : ℕ) → B + d < E → Stage B → Stage (B + d)
    staged B zero b f = let z : B + 0 ≡ B = omega arith in rw z f
    staged B (suc d) b f = let z : B + suc d ≡ suc (B + d) = omega arith in rw z (next (B + d) (omega arith) (staged B d (omega arith) f))

    -- so whoever lower blocks it is inside the one request
    pub found : (s h : ℕ) → h < v.n → Stage s → (progress J S s i).job ≡ j → (progress J S s i).unit ≡ u → i < h → waits_for J S s i h ≡ true → Same s h
    found s h m (later a) x y g e = absurd (omega arith)
    found s h m (past a b) x y g e = absurd (omega arith)
    found s h m (has a b d) x y g e = both d (waits_for_lem J S s i h e).lacking
    found s h m (still a b n w) x y g e = w.lower h m g e
