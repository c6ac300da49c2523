-- Alpha: each of the tests of 17 and 18 is the fact that specs/Refusals.antt names, and together they are what an accepted table holds.
-- Assumes nothing.
use Prim.Native.Nat.{ℕ, zero, suc, ◌≤◌, ◌<◌}
use mathlib.Core.Path.{◌≡◌, refl, sym, ◌∙◌}
use mathlib.Core.Bool.{Bool, true, false, true≢false}
use native.Mathlib.Decide.{dec_lt, ℕ_discrete}
use native.Mathlib.Omega.{arith}
use borrow.Author.Tests.{eqb-false, ne_eqb, leb-false, lt-leb, ltb-true, ltb-false, lt-ltb, le-ltb}
use lib.Dec.{eqb, leb, ltb}
use Rattle.basics.specs.Choice.{pick}
use Rattle.basics.specs.Exactly.{◌exactly_if◌}
use Rattle.basics.proofs.ChoiceLaws.{or_neither}
use Rattle.basics.proofs.CountLaws.{count_one, count_found, count_most, count_but, count_missed}
use Rattle.table.specs.declared.Table.{Table}
use Rattle.table.specs.At.{alpha_at}
use Rattle.table.specs.Rules.{all_or_none, may_follow, has_alpha, alphas_to, last_alpha}
use Rattle.table.specs.Refusals.{SomeOnly, RisesAt}

-- a test that fails exactly if a fact holds, holds exactly if that does not
pub holds_unless : {P : Type 0} (b : Bool) → (b ≡ false) exactly_if P → (b ≡ true) exactly_if (P → ⊥)
holds_unless {P} b f = (λ e p. true≢false (sym e ∙ f.1 p), go b f.0)
  where
    go : (b : Bool) → (b ≡ false → P) → (P → ⊥) → b ≡ true
    go true g n = refl
    go false g n = absurd (n (g refl))

module _ (t : Table) where
  -- ---- 17

  some_counted : SomeOnly t → (1 ≤ alphas_to t t.n) × (alphas_to t t.n < t.n)
  some_counted s = (
    count_one t.n s.with (has_alpha t) s.with_in (lt-ltb 0 (alpha_at t s.with) s.given),
    count_but t.n s.without (has_alpha t) s.without_in (le-ltb 0 (alpha_at t s.without) (omega (arith, s.none))),
  )

  counted_some : 1 ≤ alphas_to t t.n → alphas_to t t.n < t.n → SomeOnly t
  counted_some l h =
      let x = count_found t.n (has_alpha t) l in
      let y = count_missed t.n (has_alpha t) h in
      let z = ltb-false 0 (alpha_at t y.0) y.2 in
      record { with = x.0; without = y.0; with_in = x.1; without_in = y.1; given = ltb-true 0 _ x.2; none = omega arith }

  pub some_only_is : (all_or_none (alphas_to t t.n) t.n ≡ false) exactly_if SomeOnly t
  some_only_is = (there, back)
    where
      there : all_or_none (alphas_to t t.n) t.n ≡ false → SomeOnly t
      there e =
          let f = or_neither (eqb (alphas_to t t.n) 0) _ e in
          let x = eqb-false (alphas_to t t.n) 0 f.0 in
          let y = eqb-false (alphas_to t t.n) t.n f.1 in
          counted_some (omega arith) (omega (arith, count_most t.n (has_alpha t)))

      back : SomeOnly t → all_or_none (alphas_to t t.n) t.n ≡ false
      back s =
          let c = some_counted s in
          rw (ne_eqb (alphas_to t t.n) 0 (λ e. omega arith), ne_eqb (alphas_to t t.n) t.n (λ e. omega arith))

  -- ---- 18

  -- the last alpha before slot i is a: there is none, or it is that of the last task with one
  data LastIs (i a : ℕ) : Type 0 where
    no_alpha : a ≡ 0 → ((j : ℕ) → j < i → alpha_at t j ≡ 0) → LastIs i a
    of_task : (b : ℕ) → b < i → 1 ≤ a → ((j : ℕ) → b < j → j < i → alpha_at t j ≡ 0) → a ≡ alpha_at t b → LastIs i a

  last_is : (i : ℕ) → LastIs i (last_alpha t i)
  unfolding last_alpha
  last_is zero = no_alpha refl (λ j h. absurd (omega arith))
  last_is (suc i) = go (ltb 0 (alpha_at t i)) refl (last_is i)
    where
      go : (b : Bool) → ltb 0 (alpha_at t i) ≡ b → LastIs i (last_alpha t i) → LastIs (suc i) (pick b (alpha_at t i) (last_alpha t i))
      go true e l = of_task i (omega arith) (ltb-true 0 _ e) (λ j g h. absurd (omega arith)) refl
      go false e (no_alpha z n) = no_alpha z (λ j h. more (ltb-false 0 _ e) n j h (ℕ_discrete j i))
        where
          more : alpha_at t i ≤ 0 → ((j : ℕ) → j < i → alpha_at t j ≡ 0) → (j : ℕ) → j < suc i → Dec (j ≡ i) → alpha_at t j ≡ 0
          more z n j h (yes q) = rw q (omega arith)
          more z n j h (no q) = n j (omega arith)
      go false e (of_task b h l n q) = of_task b (omega arith) l (λ j g k. more (ltb-false 0 _ e) n j g k (ℕ_discrete j i)) q
        where
          more : alpha_at t i ≤ 0 → ((j : ℕ) → b < j → j < i → alpha_at t j ≡ 0) → (j : ℕ) → b < j → j < suc i → Dec (j ≡ i) → alpha_at t j ≡ 0
          more z n j g k (yes q) = rw q (omega arith)
          more z n j g k (no q) = n j g (omega arith)

  -- the last task with one is one
  same_before : (i b c : ℕ) → b < i → c < i → 1 ≤ alpha_at t b → 1 ≤ alpha_at t c → ((j : ℕ) → b < j → j < i → alpha_at t j ≡ 0) → ((j : ℕ) → c < j → j < i → alpha_at t j ≡ 0)
      → b ≡ c
  same_before i b c h k x y n m = go (dec_lt b c) (dec_lt c b)
    where
      go : Dec (b < c) → Dec (c < b) → b ≡ c
      go (yes d) e = absurd (omega (arith, n c d k))
      go (no d) (yes e) = absurd (omega (arith, m b e h))
      go (no d) (no e) = omega arith

  pub rises_is : (i : ℕ) → (may_follow (last_alpha t i) (alpha_at t i) ≡ false) exactly_if RisesAt t i
  rises_is i = (λ e. there (last_is i) (or_neither _ _ e), λ r. back (last_is i) r)
    where
      there : LastIs i (last_alpha t i) → (eqb (last_alpha t i) 0 ≡ false) × (leb (alpha_at t i) (last_alpha t i) ≡ false) → RisesAt t i
      there (no_alpha z n) f = absurd (eqb-false _ _ f.0 z)
      there (of_task b h l n q) f =
          let a = leb-false _ _ f.1 in
          record { before = b; earlier = h; given = rw (← q) l; last = n; above = rw (← q) a }

      back : LastIs i (last_alpha t i) → RisesAt t i → may_follow (last_alpha t i) (alpha_at t i) ≡ false
      back (no_alpha z n) r = absurd (omega (arith, n r.before r.earlier, r.given))
      back (of_task b h l n q) r =
          let s = same_before i b r.before h r.earlier (rw (← q) l) r.given n r.last in
          let a = r.above in
          let c : last_alpha t i < alpha_at t i = rw q (rw (← s) at a) in
          rw (ne_eqb (last_alpha t i) 0 (λ e. omega arith), lt-leb (alpha_at t i) (last_alpha t i) c)

  -- ---- what an accepted table holds

  abbrev pub AllOrNone : Type 0
  AllOrNone = (i j : ℕ) → i < t.n → j < t.n → 1 ≤ alpha_at t i → 1 ≤ alpha_at t j

  abbrev pub NeverRises : Type 0
  NeverRises = (i : ℕ) → suc i < t.n → alpha_at t (suc i) ≤ alpha_at t i

  pub all_or_none_reads : (SomeOnly t → ⊥) exactly_if AllOrNone
  all_or_none_reads = (there, λ a s. omega (arith, a s.with s.without s.with_in s.without_in s.given, s.none))
    where
      there : (SomeOnly t → ⊥) → AllOrNone
      there n i j h k g = go (ℕ_discrete (alpha_at t j) 0)
        where
          go : Dec (alpha_at t j ≡ 0) → 1 ≤ alpha_at t j
          go (yes e) = absurd (n (record { with = i; without = j; with_in = h; without_in = k; given = g; none = e }))
          go (no e) = omega arith

  pub never_rises : AllOrNone → ((i : ℕ) → i < t.n → RisesAt t i → ⊥) exactly_if NeverRises
  never_rises a = (there, back)
    where
      there : ((i : ℕ) → i < t.n → RisesAt t i → ⊥) → NeverRises
      there n i h = go (dec_lt (alpha_at t i) (alpha_at t (suc i)))
        where
          go : Dec (alpha_at t i < alpha_at t (suc i)) → alpha_at t (suc i) ≤ alpha_at t i
          go (yes d) =
              absurd
              (n (suc i) h
              (record { before = i; earlier = omega arith; given = a (suc i) i h (omega arith) (omega arith); last = λ j g k. absurd (omega arith); above = d }))
          go (no d) = omega arith

      back : NeverRises → (i : ℕ) → i < t.n → RisesAt t i → ⊥
      back f i h r = go (ℕ_discrete (suc r.before) i)
        where
          b : ℕ
          b = r.before

          go : Dec (suc b ≡ i) → ⊥
          go (yes e) = let l = f b (rw e h) in let m = r.above in omega (arith, rw e at l)
          go (no e) =
              let n = r.last (suc b) (omega arith) (omega (arith, r.earlier)) in
              omega (arith, a b (suc b) (omega (arith, r.earlier)) (omega (arith, r.earlier)) r.given)
