-- How long the line is.
-- Assumes nothing.
use Prim.Native.Nat.{ℕ, ◌+◌, ◌≤◌}
use mathlib.Core.List.{List}
use native.Mathlib.Omega.{arith}
use lib.ListN.{length, length-append}
use Rattle.table.specs.declared.Refusal.{Refusal}
use Rattle.table.specs.Faults.{number_of}
use Rattle.put.proofs.TextLaws.{count_most}
use Rattle.refusal.specs.declared.Source.{Source}
use Rattle.refusal.specs.declared.Source.TheVariants.{Listing, Card}
use Rattle.refusal.specs.Refusal.{place_word, refusal_with, refusal_text}

pub line_most : (word : List ℕ) (r : Refusal) → length (refusal_with word r) ≤ 49 + length word
unfolding refusal_with
line_most word r = simp length-append (omega (arith, count_most (number_of r.fault), count_most r.place))

pub refusal_most : (source : Source) (r : Refusal) → length (refusal_text source r) ≤ 56
refusal_most Listing r = omega (arith, line_most (place_word Listing) r)
refusal_most Card r = omega (arith, line_most (place_word Card) r)
