-- Computed: the sum of the A largest.
use Rattle.std.specs.Prelude.{◌≡◌, [], ◌∷◌}
use Rattle.basics.specs.Largest.{sum_largest}

pub record CasesHold : Type 0 where
  -- the two largest of three, wherever they stand; of two equal largest one is taken, and both where two are to be
  pub two : sum_largest 2 (300 ∷ 700 ∷ 400 ∷ []) ≡ 1_100
  pub two_first : sum_largest 2 (700 ∷ 400 ∷ 300 ∷ []) ≡ 1_100
  pub one_of_equals : sum_largest 1 (700 ∷ 300 ∷ 700 ∷ []) ≡ 700
  pub both_equals : sum_largest 2 (700 ∷ 300 ∷ 700 ∷ []) ≡ 1_400
  -- all, if there are fewer; none of none
  pub all : sum_largest 4 (300 ∷ 700 ∷ 400 ∷ []) ≡ 1_400
  pub none : sum_largest 0 (300 ∷ 700 ∷ 400 ∷ []) ≡ 0
  pub of_none : sum_largest 3 [] ≡ 0
