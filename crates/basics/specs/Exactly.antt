-- "Exactly if".

infix 5 ◌exactly_if◌
-- each from the other
abbrev pub ◌exactly_if◌ : Type 0 → Type 0 → Type 0
P exactly_if Q = (P → Q) × (Q → P)
