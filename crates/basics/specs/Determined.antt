-- When a contract determines the answer. `learnt a r x` says what a caller knows of the arguments a, the answer r, and the arguments
-- at exit x: the module `Reads` that the checker makes of each function has it, so the statement is about the contract itself.
use Rattle.std.specs.Prelude.{◌≡◌}

abbrev pub Determined : {A R X : Type 0} → (A → R → X → Type 0) → Type 0
Determined {A} {R} {X} learnt = (a : A) (x y : X) (r s : R) → learnt a r x → learnt a s y → r ≡ s

-- when it determines the answer and, of what lies at exit behind the arguments that are lent to be changed, the part `held`
abbrev pub DeterminedWith : {A R X H : Type 0} → (X → H) → (A → R → X → Type 0) → Type 0
DeterminedWith {A} {R} {X} {H} held learnt = (a : A) (x y : X) (r s : R) → learnt a r x → learnt a s y → (r ≡ s) × (held x ≡ held y)
