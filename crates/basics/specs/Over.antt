-- "Over the tasks", "over the resources": each is over the indices 0, 1, .., n − 1.
use Rattle.std.specs.Prelude.{ℕ, zero, suc, ◌+◌, max, Bool, true, ◌&&◌, List, [], ◌∷◌, ◌++◌, ltb}
use Rattle.basics.specs.Choice.{pick, only}

-- the sum of g 0, .., g (n − 1)
unfoldable pub sum_to : ℕ → (ℕ → ℕ) → ℕ
sum_to zero g = 0
sum_to (suc n) g = sum_to n g + g n

-- how many indices below n pass the test
abbrev pub count_to : ℕ → (ℕ → Bool) → ℕ
count_to n p = sum_to n (λ k. only (p k) 1)

-- the largest of g 0, .., g (n − 1), 0 if there is none
unfoldable pub max_to : ℕ → (ℕ → ℕ) → ℕ
max_to zero g = 0
max_to (suc n) g = max (max_to n g) (g n)

-- the test holds at each index below n
unfoldable pub all_to : ℕ → (ℕ → Bool) → Bool
all_to zero p = true
all_to (suc n) p = all_to n p && p n

-- the smallest index below n at which the test holds, n if there is none
unfoldable pub first_to : ℕ → (ℕ → Bool) → ℕ
first_to zero p = 0
first_to (suc n) p = pick (ltb (first_to n p) n) (first_to n p) (pick (p n) n (suc n))

-- f 0, .., f (n − 1), one after the other
unfoldable pub join_to : {A : Type 0} → ℕ → (ℕ → List A) → List A
join_to zero f = []
join_to (suc n) f = join_to n f ++ f n

-- the row g 0, .., g (n − 1)
abbrev pub row_to : {A : Type 0} → ℕ → (ℕ → A) → List A
row_to n g = join_to n (λ k. g k ∷ [])
