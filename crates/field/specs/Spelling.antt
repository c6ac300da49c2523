-- The meaning of a field said a second way, without reading it: which texts state a number, and which number.
use Rattle.std.specs.Prelude.{ℕ, ◌+◌, ◌-◌, ◌*◌, ◌^◌, ◌≤◌, ◌<◌, ◌≡◌, List, [], ◌∷◌, ◌++◌, length}
use Rattle.field.specs.declared.Rounding.{Rounding}
use Rattle.field.specs.declared.Rounding.TheVariants.{Down, Up}

-- a text of digits, '0' to '9', and nothing else
pub data Digits : List ℕ → Type 0 where
  none : Digits []
  one : {d : ℕ} {ds : List ℕ} → 48 ≤ d → d ≤ 57 → Digits ds → Digits (d ∷ ds)

-- the number that digits are: each times the power of ten of its place
unfoldable pub value_of : List ℕ → ℕ
value_of [] = 0
value_of (d ∷ ds) = (d - 48) * 10 ^ length ds + value_of ds

-- at least one and at most n digits
pub record DigitsTo (n : ℕ) (w : List ℕ) : Type 0 where
  pub digits : Digits w
  pub some : 1 ≤ length w
  pub few : length w ≤ n

-- a time: as it is typed, in nanoseconds, and as the table holds it, in microseconds
pub record Time : Type 0 where
  pub typed : ℕ
  pub held : ℕ

-- a text spells ns nanoseconds: it is digits w, or digits w, a point and digits f, and ns = number(w) × 1,000,000 + number(f) × 10^(6 − length f)
pub data Spells : List ℕ → ℕ → Type 0 where
  whole : {w : List ℕ} {ns : ℕ} → DigitsTo 5 w → ns ≡ value_of w * 1_000_000 → Spells w ns
  pointed : {w f : List ℕ} {ns : ℕ} → DigitsTo 5 w → DigitsTo 6 f
      → ns ≡ value_of w * 1_000_000 + value_of f * 10 ^ (6 - length f) → Spells (w ++ (46 ∷ f)) ns

-- v is the whole microsecond that ns nanoseconds are rounded to, said without dividing: it lies on its side of them, and less than a microsecond away
unfoldable pub RoundedTo : Rounding → ℕ → ℕ → Type 0
RoundedTo Down ns v = (v * 1000 ≤ ns) × (ns < (v + 1) * 1000)
RoundedTo Up ns v = (ns ≤ v * 1000) × (v * 1000 < ns + 1000)

-- w states the time x, rounded this way
pub record StatesTime (way : Rounding) (w : List ℕ) (x : Time) : Type 0 where
  pub spells : Spells w x.typed
  pub rounds : RoundedTo way x.typed x.held

pub record StatesCount (w : List ℕ) (v : ℕ) : Type 0 where
  pub digits : DigitsTo 4 w
  pub value : v ≡ value_of w
