-- While one request of a job waits, the jobs below it that hold its lock run no longer than the longest request of one of them.
-- Assumes nothing.
use Prim.Native.Nat.{ℕ, suc, ◌+◌, ◌-◌, ◌≤◌, ◌<◌, zero-le}
use mathlib.Core.Path.{◌≡◌, refl, sym, subst, ap, ◌∙◌}
use mathlib.Core.Bool.{Bool, true, false, ◌&&◌}
use native.Mathlib.Nat.{le_refl, le_trans}
use native.Mathlib.Decide.{dec_lt}
use native.Mathlib.Omega.{arith}
use borrow.Author.Tests.{eq-eqb, eqb-true, ltb-true, lt-ltb}
use lib.Dec.{eqb, ltb}
use Rattle.basics.specs.Choice.{only}
use Rattle.basics.specs.Over.{first_to}
use Rattle.basics.proofs.MaxLaws.{max_part}
use Rattle.basics.proofs.SumLaws.{sum_le}
use Rattle.basics.proofs.FirstIndexLaws.{first_is}
use Rattle.basics.proofs.OnceLaws.{both, and_both}
use Rattle.basics.proofs.ChoiceLaws.{and_true}
use Rattle.table.specs.Limits.{max_resources}
use Rattle.theory.specs.View.{View, level, resource, is_above, largest_below}
use Rattle.windows.proofs.ServedLaws.{hits, hits_all}
use Rattle.schedules.specs.Jobs.{JobSet, in_lock, stretch, Generated}
use Rattle.schedules.specs.Schedule.{Schedule, progress, needs, waits_for}
use Rattle.schedules.proofs.FactLaws.{Obeys, waits_for_lem}
use Rattle.schedules.proofs.ProgressLaws.{ran_most}
use Rattle.schedules.proofs.RequestLaws.{at_stretch, Same, Stage, still, staged, found}

-- one below i holds the lock that i waits for, and runs
abbrev pub blocks : JobSet → Schedule → ℕ → ℕ → ℕ → Bool
blocks J S s i h = ltb i h && (S.runs s h && waits_for J S s i h)

abbrev pub blocked : View → JobSet → Schedule → ℕ → ℕ → Bool
blocked v J S i s = ltb (first_to v.n (blocks J S s i)) v.n

-- it is so at the unit u of its job
unfoldable pub at_unit : View → JobSet → Schedule → ℕ → ℕ → ℕ → Bool
at_unit v J S i u s = blocked v J S i s && eqb (progress J S s i).unit u

-- the longest request of one below i
unfoldable pub longest_below : View → ℕ → ℕ → ℕ
longest_below v i k = largest_below v (level i) (λ h. v.c h (resource k))

module _ (v : View) (J : JobSet) (S : Schedule) (E : ℕ) (o : Generated v J) (p : Obeys v J S E) where
  pub record Blocker (i s : ℕ) : Type 0 where
    pub h : ℕ
    pub small : h < v.n
    pub below : i < h
    pub runs : S.runs s h ≡ true
    pub waited : waits_for J S s i h ≡ true

  pub blocker : (i s : ℕ) → blocked v J S i s ≡ true → Blocker i s
  blocker i s e =
      let m = ltb-true (first_to v.n (blocks J S s i)) v.n e in
      let h = first_to v.n (blocks J S s i) in
      let f = (first_is v.n (blocks J S s i)).found m in
      let a = and_true (ltb i h) (S.runs s h && waits_for J S s i h) f in
      let b = and_true (S.runs s h) (waits_for J S s i h) a.1 in
      record { h = h; small = m; below = ltb-true i h a.0; runs = b.0; waited = b.1 }

  -- a window of t from A on, before the end of the run, in which task i is at its job j
  module _ (i j A t : ℕ) (l : i < v.n) (end : A + t ≤ E) (at : (s : ℕ) → A ≤ s → s < A + t → (progress J S s i).job ≡ j) where
    pub needs_at : (s : ℕ) → A ≤ s → s < A + t → (u : ℕ) → (progress J S s i).unit ≡ u → needs J S s i ≡ J.lock i j u
    needs_at s a b u y = ap (λ (q : ℕ). J.lock i q (progress J S s i).unit) (at s a b) ∙ ap (J.lock i j) y

    largest : (k h : ℕ) → h < v.n → i < h → v.c (level h) (resource k) ≤ longest_below v i k
    unfolding longest_below
    largest k h m g =
        let a : is_above (level i) (level h) ≡ true = lt-ltb (suc i) (suc h) (omega arith) in
        let x : only (is_above (level i) (level h)) (v.c (level h) (resource k)) ≡ v.c (level h) (resource k) = rw a in
        let y = max_part v.n h (λ h. only (is_above (level i) (level h)) (v.c (level h) (resource k))) m in
        omega arith

    -- first blocked at A + s₀ at its unit u, by a task h₀: all that blocks it at this unit is one stretch of one job of h₀
    module _ (u s₀ k : ℕ) (small : s₀ < t) (seen : at_unit v J S i u (A + s₀) ≡ true) (need : J.lock i j u ≡ suc k) where
      u₀ : (progress J S (A + s₀) i).unit ≡ u
      unfolding at_unit
      u₀ = eqb-true (progress J S (A + s₀) i).unit u (and_true (blocked v J S i (A + s₀)) (eqb (progress J S (A + s₀) i).unit u) seen).1

      b₀ : Blocker i (A + s₀)
      unfolding at_unit
      b₀ = blocker i (A + s₀) (and_true (blocked v J S i (A + s₀)) (eqb (progress J S (A + s₀) i).unit u) seen).0

      h₀ : ℕ
      h₀ = b₀.h

      j₀ : ℕ
      j₀ = (progress J S (A + s₀) b₀.h).job

      q₀ : ℕ
      q₀ = at_stretch v J S E o p (A + s₀) b₀.h

      one_stretch : ℕ → Bool
      one_stretch u = in_lock J h₀ j₀ k u && eqb (stretch J h₀ j₀ u) q₀

      own : ℕ → Bool
      own s = S.runs s h₀ && (eqb (progress J S s h₀).job j₀ && one_stretch (progress J S s h₀).unit)

      start : Stage v J S E o p i j u h₀ j₀ q₀ l (A + s₀)
      unfolding h₀ j₀ q₀
      start =
          let f = waits_for_lem J S (A + s₀) i b₀.h b₀.waited in
          still (at (A + s₀) (omega arith) (omega arith)) u₀ (subst (λ (x : ℕ). 0 < x) (sym f.needing) (p.holder_needs (A + s₀) b₀.h (omega arith) b₀.small f.holding))
          (record { asking = f.asking; lacking = f.lacking; lower = λ h m g e. same h (one h m e) })
        where
          one : (h : ℕ) → h < v.n → waits_for J S (A + s₀) i h ≡ true → h ≡ b₀.h
          one h m e =
              let f = waits_for_lem J S (A + s₀) i h e in
              let g = waits_for_lem J S (A + s₀) i b₀.h b₀.waited in
              p.one_at_a_time (A + s₀) h b₀.h (omega arith) m b₀.small f.holding g.holding (sym f.needing ∙ g.needing)

          same : (h : ℕ) → h ≡ b₀.h → Same v J S E o p i j u b₀.h (progress J S (A + s₀) b₀.h).job (at_stretch v J S E o p (A + s₀) b₀.h) l (A + s₀) h
          same h z = record { task = z; job = ap (λ (x : ℕ). (progress J S (A + s₀) x).job) z; inside_it = ap (at_stretch v J S E o p (A + s₀)) z }

      is_own : (s h : ℕ) → h ≡ h₀ → S.runs s h ≡ true → (progress J S s h).job ≡ j₀ → needs J S s h ≡ suc k → at_stretch v J S E o p s h ≡ q₀ → own s ≡ true
      unfolding own one_stretch
      is_own s h z r jb lk rq =
          go (subst (λ (x : ℕ). S.runs s x ≡ true) z r) (subst (λ (x : ℕ). (progress J S s x).job ≡ j₀) z jb)
          (subst (λ (x : ℕ). needs J S s x ≡ suc k) z lk) (subst (λ (x : ℕ). at_stretch v J S E o p s x ≡ q₀) z rq)
        where
          go : S.runs s h₀ ≡ true → (progress J S s h₀).job ≡ j₀ → needs J S s h₀ ≡ suc k → at_stretch v J S E o p s h₀ ≡ q₀ → own s ≡ true
          go r jb lk rq =
              and_both _ _ r (and_both _ _ (eq-eqb _ _ jb) (and_both _ _
              (eq-eqb _ _ (subst (λ (x : ℕ). J.lock h₀ x (progress J S s h₀).unit ≡ suc k) jb lk))
              (eq-eqb _ _ (subst (λ (x : ℕ). stretch J h₀ x (progress J S s h₀).unit ≡ q₀) jb rq))))

      mine : (s : ℕ) → s₀ ≤ s → s < t → at_unit v J S i u (A + s) ≡ true → own (A + s) ≡ true
      unfolding at_unit
      mine s x y e =
          let a = and_true (blocked v J S i (A + s)) (eqb (progress J S (A + s) i).unit u) e in
          let b = blocker i (A + s) a.0 in
          let un = eqb-true (progress J S (A + s) i).unit u a.1 in
          let w : A + s₀ + (s - s₀) ≡ A + s = omega arith in
          let ft = subst (λ (z : ℕ). Stage v J S E o p i j u h₀ j₀ q₀ l z) w (staged v J S E o p i j u h₀ j₀ q₀ l (A + s₀) (s - s₀) (omega arith) start) in
          let sm = found v J S E o p i j u h₀ j₀ q₀ l (A + s) b.h b.small ft (at (A + s) (omega arith) (omega arith)) un b.below b.waited in
          let lk = sym (waits_for_lem J S (A + s) i b.h b.waited).needing ∙ needs_at (A + s) (omega arith) (omega arith) u un ∙ need in
          is_own (A + s) b.h sm.task b.runs sm.job lk sm.inside_it

      pub request_most : k < max_resources → ((s : ℕ) → s < s₀ → at_unit v J S i u (A + s) ≡ false) → hits (at_unit v J S i u) A t ≤ longest_below v i k
      unfolding hits own one_stretch h₀
      request_most kn clear =
          le_trans (sum_le t (λ s. only (at_unit v J S i u (A + s)) 1) (λ s. only (own (A + s)) 1) (λ s m. each s m (at_unit v J S i u (A + s)) refl (dec_lt s s₀)))
          (le_trans (omega (arith, hits_all own A t)) (le_trans (ran_most J S h₀ (λ q. o.some h₀ q b₀.small) j₀ one_stretch (A + t))
          (le_trans (o.longest h₀ j₀ k q₀ b₀.small kn) (largest k h₀ b₀.small b₀.below))))
        where
          each : (s : ℕ) → s < t → (c : Bool) → at_unit v J S i u (A + s) ≡ c → Dec (s < s₀) → only c 1 ≤ only (own (A + s)) 1
          each s m true e (yes d) = both e (clear s d)
          each s m true e (no d) = rw (mine s (omega arith) m e) (le_refl 1)
          each s m false e d = zero-le
