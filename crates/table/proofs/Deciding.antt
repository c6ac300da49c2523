-- Of two checks, and of n, the first that refuses decides; what a refusal comes from, and what gives it; and no two refusals have one number. Nothing here mentions a rule.
-- Assumes nothing.
use Prim.Native.Nat.{ℕ, zero, suc, pred, ◌<◌}
use mathlib.Core.Path.{◌≡◌, refl, sym, ap, ◌∙◌}
use mathlib.Core.Bool.{Bool, true, false}
use mathlib.Core.List.{List, [], ◌∷◌}
use mathlib.Core.Logic.{◌⊎◌, inl, inr}
use native.Mathlib.Nat.{le_refl}
use native.Mathlib.Omega.{arith}
use lib.ListN.{get_or}
use Rattle.basics.specs.Exactly.{◌exactly_if◌}
use Rattle.table.specs.declared.Fault.{Fault}
use Rattle.table.specs.declared.Fault.TheVariants.{TooLong, BadForm, BadField, OutOfRange, BadTimes, NotRising, BadTotals, TooManyTasks, NoTask, UnknownTask, TooShort, BadLength, BadBlock, Mismatch, BadCard, NoRounds, AlphaMissing, AlphaRises, GroupNotRising, HasGroup}
use Rattle.table.specs.declared.Refusal.{Refusal}
use Rattle.table.specs.Faults.{Checked}
use Rattle.std.specs.Prelude.{Ok, Err}
use Rattle.table.specs.Faults.{number_of, Refuses, ◌then◌, unless, first_fault}
use Rattle.table.proofs.FirstLaws.{first_at, first_fine, each_fine}

-- ---- numbers

faults : List Fault
faults =
    TooLong ∷ BadForm ∷ BadField ∷ OutOfRange ∷ BadTimes ∷ NotRising ∷ BadTotals ∷ TooManyTasks ∷ NoTask ∷ UnknownTask ∷ TooShort ∷ BadLength ∷ BadBlock ∷ Mismatch ∷ BadCard ∷ NoRounds ∷ AlphaMissing ∷ AlphaRises ∷ GroupNotRising ∷ HasGroup ∷ []

abbrev fault_of : ℕ → Fault
fault_of k = get_or faults (pred k) TooLong

number_back : (f : Fault) → fault_of (number_of f) ≡ f
unfolding faults
number_back TooLong = refl
number_back BadForm = refl
number_back BadField = refl
number_back OutOfRange = refl
number_back BadTimes = refl
number_back NotRising = refl
number_back BadTotals = refl
number_back TooManyTasks = refl
number_back NoTask = refl
number_back UnknownTask = refl
number_back TooShort = refl
number_back BadLength = refl
number_back BadBlock = refl
number_back Mismatch = refl
number_back BadCard = refl
number_back NoRounds = refl
number_back AlphaMissing = refl
number_back AlphaRises = refl
number_back GroupNotRising = refl
number_back HasGroup = refl

pub one_number : (a b : Fault) → number_of a ≡ number_of b → a ≡ b
one_number a b e = sym (number_back a) ∙ ap fault_of e ∙ number_back b

-- ---- two checks, and n of them

-- a check that is fine refuses nothing
not_refused : {A : Type 0} {c : Checked} {k p : ℕ} → c ≡ Ok tt → Refuses c k p → A
not_refused e (r, f, t) = let z : ◌≡◌ {A = ℕ} 0 1 = cc in absurd (omega arith)

pub two_decide : (a b : Checked) (k p : ℕ) → Refuses (a then b) k p exactly_if (Refuses a k p ⊎ ((a ≡ Ok tt) × Refuses b k p))
two_decide (Ok _) b k p = (λ x. inr (refl, x), back)
  where
    back : Refuses {A = Unit {0}} (Ok tt) k p ⊎ ((◌≡◌ {A = Checked} (Ok tt) (Ok tt)) × Refuses b k p) → Refuses b k p
    back (inl x) = not_refused refl x
    back (inr x) = x.1
two_decide (Err s) b k p = (λ x. inl x, back)
  where
    back : Refuses {A = Unit {0}} (Err s) k p ⊎ ((◌≡◌ {A = Checked} (Err s) (Ok tt)) × Refuses b k p) → Refuses {A = Unit {0}} (Err s) k p
    back (inl x) = x
    back (inr x) = let z : ◌≡◌ {A = ℕ} 0 1 = cc in absurd (omega arith)

-- the thing at i is refused, and those before it are not
abbrev First : ℕ → (ℕ → Checked) → ℕ → ℕ → Type 0
First n f k p = (i : ℕ) × (i < n) × Refuses (f i) k p × ((j : ℕ) → j < i → f j ≡ Ok tt)

first_of : (n : ℕ) (f : ℕ → Checked) (k p : ℕ) → Refuses (first_fault n f) k p → First n f k p
unfolding first_fault
first_of zero f k p x = not_refused refl x
first_of (suc n) f k p x = go ((two_decide (first_fault n f) (f n) k p).0 x) (first_of n f k p)
  where
    go : Refuses (first_fault n f) k p ⊎ ((first_fault n f ≡ Ok tt) × Refuses (f n) k p) → (Refuses (first_fault n f) k p → First n f k p)
        → First (suc n) f k p
    go (inl y) ih = let z = ih y in (z.0, omega (arith, z.1), z.2, z.3)
    go (inr y) ih = (n, le_refl (suc n), y.1, each_fine n f y.0)

pub many_decide : (n : ℕ) (f : ℕ → Checked) (k p : ℕ) → Refuses (first_fault n f) k p exactly_if First n f k p
many_decide n f k p =
    (first_of n f k p, λ x. let y = x.2 in (y.0, first_at n x.0 f y.0 x.1 (first_fine x.0 f x.3) y.1, y.2))

-- ---- what a refusal comes from, and what gives it

-- the refusal that a check gives, if it gives one
given : Checked → Refusal
given (Ok _) = record { fault = TooLong; place = 0 }
given (Err r) = r

-- a rule refuses where its test fails, with its own number and place
pub rule_is : (test : Bool) (f : Fault) (q k p : ℕ) → Refuses (unless test f q) k p → (test ≡ false) × (number_of f ≡ k) × (q ≡ p)
unfolding given
rule_is true f q k p x = not_refused refl x
rule_is false f q k p (r, e, t) =
    let g = ap given e in
    (refl, ap (λ (x : Refusal). number_of x.fault) g ∙ t.number, ap (λ (x : Refusal). x.place) g ∙ t.place)

pub is_rule : (test : Bool) (f : Fault) (q : ℕ) → test ≡ false → Refuses (unless test f q) (number_of f) q
is_rule test f q e = rw e (_, refl, record { number = refl; place = refl })

-- what is concluded from the refusal of a rule, and of two checks
pub from_rule : (C : ℕ → ℕ → Type 0) (test : Bool) (f : Fault) (q k p : ℕ) → (test ≡ false → C (number_of f) q) → Refuses (unless test f q) k p → C k p
from_rule C test f q k p h x = let r = rule_is test f q k p x in rw (← r.1, ← r.2) (h r.0)

pub from_two : {A : Type 0} (a b : Checked) (k p : ℕ) → (Refuses a k p → A) → (a ≡ Ok tt → Refuses b k p → A) → Refuses (a then b) k p → A
from_two {A} a b k p f g x = go ((two_decide a b k p).0 x)
  where
    go : Refuses a k p ⊎ ((a ≡ Ok tt) × Refuses b k p) → A
    go (inl y) = f y
    go (inr y) = g y.0 y.1

-- the first of two checks gives it
pub by_first : (a b : Checked) (k p : ℕ) → Refuses a k p → Refuses (a then b) k p
by_first a b k p x = (two_decide a b k p).1 (inl x)

-- a test that is a fact, by its failing
pub fails : {P : Type 0} (b : Bool) → (P → b ≡ true) → b ≡ false → P → ⊥
fails b back e p = let f = back p in let z : ◌≡◌ {A = ℕ} 0 1 = cc in omega arith

pub failing : {P : Type 0} (b : Bool) → (b ≡ true → P) → (P → ⊥) → b ≡ false
failing true forth n = absurd (n (forth refl))
failing false forth n = refl
