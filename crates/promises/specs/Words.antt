-- Words that the promises are made of.
use Prim.Native.String.{String}
use Rattle.std.specs.Prelude.{ℕ, ◌≡◌, List, ◌++◌, length, drop, Ok}
use Rattle.basics.specs.Text.{bytes}
use Rattle.table.specs.declared.Table.{Table}
use Rattle.table.specs.Answers.{Written, table_from}
use Rattle.listing.specs.Read.{read_listing}

-- a contract (`learnt`, as in basics/specs/Determined) says that the answer to the arguments a is `answer a`
abbrev pub Answers : {A R X : Type 0} → (A → R → X → Type 0) → (A → R) → Type 0
Answers {A} {R} {X} learnt answer = (a : A) (r : R) (x : X) → learnt a r x → r ≡ answer a

-- and that, of what lies at exit behind the arguments that are lent to be changed, the part `held` is `after a`
abbrev pub Leaves : {A R X H : Type 0} → (X → H) → (A → R → X → Type 0) → (A → H) → Type 0
Leaves {A} {R} {X} {H} held learnt after = (a : A) (r : R) (x : X) → learnt a r x → held x ≡ after a

-- the table that a listing is read as
abbrev pub read_table : String → Table
read_table s = table_from (read_listing (bytes s))

-- a writer's answer, and what an output that held `out` then holds: all of the text is written at its start, and past it is what was there
pub record Writes (text out : List ℕ) (answer : Written) (after : List ℕ) : Type 0 where
  pub wrote : answer ≡ Ok (length text)
  pub output : after ≡ text ++ drop (length text) out
