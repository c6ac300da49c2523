-- Request 6/12 of document 02: how many rounds, over any demand f and deadline D. "Start at C and replace the length by the demand at it until it repeats or passes D."
use Rattle.std.specs.Prelude.{ℕ, zero, suc, ◌-◌, ◌≤◌, ◌<◌, ◌≡◌, ◌⊎◌, eqb, ltb}
use Rattle.basics.specs.Choice.{pick}
use Rattle.theory.specs.declared.Verdict.{Verdict}
use Rattle.theory.specs.declared.Verdict.TheVariants.{Meets, Misses, Open}
use Rattle.theory.specs.declared.Counted.{Counted}

-- a verdict after one round; and one that takes a round more
abbrev pub once : Verdict → Counted
once v = record { verdict = v; rounds = 1 }

abbrev pub one_more : Counted → Counted
one_more r = record { verdict = r.verdict; rounds = suc r.rounds }

-- the verdict, and "how many demands were worked out", from the length t on, with an allowance of so many: "exactly when it runs out with the length neither
-- repeated nor past D the verdict is `open`"
unfoldable pub counted_from : (ℕ → ℕ) → ℕ → ℕ → ℕ → Counted
counted_from f D zero t = record { verdict = Open; rounds = 0 }
counted_from f D (suc left) t = pick (eqb (f t) t) (once (Meets t)) (pick (ltb D (f t)) (once Misses) (one_more (counted_from f D left (f t))))

-- ---- the count without an allowance, said by the lengths themselves

-- the length after k rounds from t on
unfoldable pub length_after : (ℕ → ℕ) → ℕ → ℕ → ℕ
length_after f zero t = t
length_after f (suc k) t = length_after f k (f t)

-- the round at the length t is the last: "until it repeats or passes D"
abbrev pub Ends : (ℕ → ℕ) → ℕ → ℕ → Type 0
Ends f D t = (f t ≡ t) ⊎ (D < f t)

-- from C on, n demands are worked out: the nth round is the last, and none before it is
pub record Counts (f : ℕ → ℕ) (D C n : ℕ) : Type 0 where
  pub some : 1 ≤ n
  pub ends : Ends f D (length_after f (n - 1) C)
  pub goes_on : (k : ℕ) → suc k < n → Ends f D (length_after f k C) → ⊥
