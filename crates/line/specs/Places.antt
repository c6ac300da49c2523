-- A field by its place. No reader has to believe this: only the contracts of private functions cite it.
use Rattle.std.specs.Prelude.{ℕ, ◌+◌, Option, Some, None, Result, Ok, Err}
use Rattle.table.specs.declared.Refusal.{Refusal}
use Rattle.table.specs.declared.Fault.TheVariants.{BadField}
use Rattle.field.specs.declared.Field.{Field}

-- the number of a field of line n that begins at a place, and where the next one begins
abbrev pub placed : ℕ → ℕ → Option Field → Result (ℕ × ℕ) Refusal
placed n at (Some f) = Ok (f.value, at + f.width + 1)
placed n at None = Err (record { fault = BadField; place = n })
