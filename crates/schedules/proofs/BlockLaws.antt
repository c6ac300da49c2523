-- (6): the time in which a job waits for a lock and one below it that holds the lock runs is at most DB.
-- Assumes nothing.
use Prim.Native.Nat.{ℕ, zero, suc, ◌+◌, ◌*◌, ◌≤◌, ◌<◌, zero-le}
use mathlib.Core.Path.{◌≡◌, refl, sym, subst, ap, ◌∙◌}
use mathlib.Core.Bool.{Bool, true, false, ◌&&◌}
use native.Mathlib.Nat.{le_refl, le_trans, mul-le-mul_right}
use native.Mathlib.Decide.{dec_lt}
use native.Mathlib.Omega.{arith}
use borrow.Author.Tests.{eq-eqb, eqb-true, lt-ltb}
use lib.Dec.{eqb, ltb}
use Rattle.basics.specs.Choice.{only}
use Rattle.basics.specs.Over.{sum_to, count_to, first_to}
use Rattle.basics.proofs.SumLaws.{sum_le, sum_part}
use Rattle.basics.proofs.CountLaws.{count_none, sum_swap}
use Rattle.basics.proofs.FirstIndexLaws.{First, first_is}
use Rattle.basics.proofs.OnceLaws.{both, and_both}
use Rattle.basics.proofs.ChoiceLaws.{and_true}
use Rattle.table.specs.Limits.{max_resources}
use Rattle.theory.specs.View.{View, level, resource, uses}
use Rattle.theory.specs.Demand.{DB}
use Rattle.windows.proofs.ServedLaws.{hits}
use Rattle.schedules.specs.Jobs.{JobSet, in_lock, Generated}
use Rattle.schedules.specs.Schedule.{Schedule, progress, needs, begins}
use Rattle.schedules.proofs.FactLaws.{Obeys, WaitsFor, waits_for_lem}
use Rattle.schedules.proofs.ProgressLaws.{unit_below}
use Rattle.schedules.proofs.RequestLaws.{inside}
use Rattle.schedules.proofs.BlockerLaws.{blocked, Blocker, blocker, at_unit, longest_below, needs_at, request_most}

times : (n : ℕ) (q : ℕ → Bool) (b : ℕ) → sum_to n (λ u. only (q u) b) ≡ count_to n q * b
unfolding sum_to
times zero q b = omega arith
times (suc n) q b = go (q n) (times n q b)
  where
    go : (c : Bool) → sum_to n (λ u. only (q u) b) ≡ count_to n q * b → sum_to n (λ u. only (q u) b) + only c b ≡ (count_to n q + only c 1) * b
    go true e = omega arith
    go false e = omega arith

-- at most N requests, of at most b each
used : (x b N : ℕ) → x ≤ N → x * b ≤ only (ltb 0 N) (N * b)
used x b zero h = let e : x ≡ 0 = omega arith in rw e (omega arith)
used x b (suc N) h = rw (lt-ltb 0 (suc N) (omega arith)) (mul-le-mul_right b h)

module _ (v : View) (J : JobSet) (S : Schedule) (E : ℕ) (o : Generated v J) (p : Obeys v J S E) where
  -- a window of t from A on, before the end of the run, in which task i is at its job j
  module _ (i j A t : ℕ) (l : i < v.n) (end : A + t ≤ E) (at : (s : ℕ) → A ≤ s → s < A + t → (progress J S s i).job ≡ j) where
    -- at one unit, which is the first of a request
    asks : ℕ → ℕ → Bool
    asks k u = in_lock J i j k u && J.starts i j u

    unit_most : (u : ℕ) → u < J.cost i j → hits (at_unit v J S i u) A t ≤ sum_to max_resources (λ k. only (asks k u) (longest_below v i k))
    unfolding hits at_unit asks
    unit_most u c = go (dec_lt (first_to t (λ s. at_unit v J S i u (A + s))) t)
      where
        f : First t (λ s. at_unit v J S i u (A + s)) (first_to t (λ s. at_unit v J S i u (A + s)))
        f = first_is t (λ s. at_unit v J S i u (A + s))

        go : Dec (first_to t (λ s. at_unit v J S i u (A + s)) < t) → hits (at_unit v J S i u) A t ≤ sum_to max_resources (λ k. only (asks k u) (longest_below v i k))
        go (no d) = omega (arith, count_none t (λ s. at_unit v J S i u (A + s)) (λ s m. f.clear s (omega (arith, f.upto))))
        go (yes d) = here (J.lock i j u) refl
          where
            B : ℕ
            B = A + first_to t (λ s. at_unit v J S i u (A + s))

            seen : (blocked v J S i B ≡ true) × (eqb (progress J S B i).unit u ≡ true)
            seen = and_true (blocked v J S i B) (eqb (progress J S B i).unit u) (f.found d)

            b : Blocker v J S E o p i B
            b = blocker v J S E o p i B seen.0

            g : WaitsFor J S B i b.h
            g = waits_for_lem J S B i b.h b.waited

            un : (progress J S B i).unit ≡ u
            un = eqb-true (progress J S B i).unit u seen.1

            lock : needs J S B i ≡ J.lock i j u
            lock = needs_at v J S E o p i j A t l end at B (omega arith) (omega arith) u un

            pos : 0 < needs J S B i
            pos = subst (λ (x : ℕ). 0 < x) (sym g.needing) (p.holder_needs B b.h (omega arith) b.small g.holding)

            -- inside a request it would have the lock
            starting : (c : Bool) → begins J S B i ≡ c → c ≡ true
            starting true e = refl
            starting false e = both (inside v J S E o p B i (omega arith) l pos e) g.lacking

            begun : J.starts i j u ≡ begins J S B i
            begun = ap (J.starts i j) (sym un) ∙ ap (λ (q : ℕ). J.starts i q (progress J S B i).unit) (sym (at B (omega arith) (omega arith)))

            here : (x : ℕ) → J.lock i j u ≡ x → hits (at_unit v J S i u) A t ≤ sum_to max_resources (λ k. only (asks k u) (longest_below v i k))
            here zero e = absurd (omega (arith, pos, lock))
            here (suc k) e =
                let kn : k < max_resources = omega (arith, o.known i j u l c) in
                let x = sum_part max_resources k (λ k. only (asks k u) (longest_below v i k)) kn in
                let y : asks k u ≡ true = and_both _ _ (eq-eqb _ _ e) (begun ∙ starting (begins J S B i) refl) in
                let w : only (asks k u) (longest_below v i k) ≡ longest_below v i k = rw y in
                omega (arith, request_most v J S E o p i j A t l end at u (first_to t (λ s. at_unit v J S i u (A + s))) k d (f.found d) e kn f.clear)

    pub DB_most : hits (blocked v J S i) A t ≤ DB v (level i)
    unfolding hits DB longest_below at_unit asks
    DB_most =
        le_trans (sum_le t (λ s. only (blocked v J S i (A + s)) 1) (λ s. sum_to (J.cost i j) (λ u. only (at_unit v J S i u (A + s)) 1)) (λ s m. put s m))
        (subst (λ (w : ℕ). w ≤ DB v (level i)) (sym (sum_swap t (J.cost i j) (λ s u. only (at_unit v J S i u (A + s)) 1)))
        (le_trans (sum_le (J.cost i j) (λ u. hits (at_unit v J S i u) A t) (λ u. sum_to max_resources (λ k. only (asks k u) (longest_below v i k))) (λ u m. unit_most u m))
        (subst (λ (w : ℕ). w ≤ DB v (level i)) (sym (sum_swap (J.cost i j) max_resources (λ u k. only (asks k u) (longest_below v i k))))
        (sum_le max_resources (λ k. sum_to (J.cost i j) (λ u. only (asks k u) (longest_below v i k)))
        (λ k. only (uses v (level i) (resource k)) (v.N (level i) (resource k) * longest_below v i k))
        (λ k m. subst (λ (w : ℕ). w ≤ only (uses v (level i) (resource k)) (v.N (level i) (resource k) * longest_below v i k))
        (sym (times (J.cost i j) (asks k) (longest_below v i k))) (used _ (longest_below v i k) _ (o.count i j k l m)))))))
      where
        put : (s : ℕ) → s < t → only (blocked v J S i (A + s)) 1 ≤ sum_to (J.cost i j) (λ u. only (at_unit v J S i u (A + s)) 1)
        put s m =
            let u = (progress J S (A + s) i).unit in
            let jb = at (A + s) (omega arith) (omega arith) in
            let b : u < J.cost i j = subst (λ (q : ℕ). u < J.cost i q) jb (unit_below J S i (λ q. o.some i q l) (A + s)) in
            le_trans (self (blocked v J S i (A + s)) u) (sum_part (J.cost i j) u (λ u. only (at_unit v J S i u (A + s)) 1) b)
          where
            self : (c : Bool) (u : ℕ) → only c 1 ≤ only (c && eqb u u) 1
            self true u = rw (eq-eqb u u refl) (le_refl 1)
            self false u = zero-le
