-- Cards with bad blocks, computed: what becomes of each block, whether those left are complete, and the refusals in their order.
use Rattle.std.specs.Prelude.{ℕ, ◌≡◌, Bool, true, false, List, [], ◌∷◌, ◌++◌, map, set, replicate, Ok}
use Rattle.table.specs.declared.Fault.TheVariants.{BadTimes, TooShort, Mismatch, BadCard}
use Rattle.table.specs.Empty.{unused_pair}
use Rattle.table.specs.At.{a_task}
use Rattle.table.specs.Faults.{at}
use Rattle.block.specs.Block.{block_of}
use Rattle.salvaging.specs.Fates.{codes_of}
use Rattle.salvaging.specs.Salvage.{is_complete, in_order, left_fault, salvage_fault}

-- the block of m, n, a task number and C, of a task with T and D 10
abbrev block : ℕ → ℕ → ℕ → ℕ → List ℕ
block m n number C = block_of (record { cpus = m; n = n; number = number }) (a_task 10 C 10 (replicate 16 unused_pair))

-- an archive of two tasks; block 1 spoiled
abbrev one : List ℕ
one = block 4 2 1 1

abbrev two : List ℕ
two = block 4 2 2 2

abbrev spoiled : List ℕ
spoiled = set one 20 1

-- an input, its list, and whether the blocks left are complete
pub record Case : Type 0 where
  pub input : List ℕ
  pub list : List ℕ
  pub complete : Bool

abbrev case : List ℕ → List ℕ → Bool → Case
case input list complete = record { input = input; list = list; complete = complete }

unfoldable pub cases : List Case
cases =
    -- as it is; in another order; with a copy and a bad block
    case (one ++ two) (2 ∷ 2 ∷ []) true
    ∷ case (two ++ one) (3 ∷ 3 ∷ []) true
    ∷ case (two ++ spoiled ++ two ++ one) (3 ∷ 0 ∷ 1 ∷ 3 ∷ []) true
    -- a block that equals a bad one is bad; the position counts bad ones too
    ∷ case (spoiled ++ spoiled ++ one ++ two) (0 ∷ 0 ∷ 3 ∷ 3 ∷ []) true
    -- nothing is left; one is missing
    ∷ case spoiled (0 ∷ []) false
    ∷ case (spoiled ++ two) (0 ∷ 2 ∷ []) false
    -- two of one number, which are not equal; other processors; another n; number 0, and one above n
    ∷ case (one ++ two ++ block 4 2 2 3) (2 ∷ 2 ∷ 3 ∷ []) false
    ∷ case (one ++ block 3 2 2 2) (2 ∷ 2 ∷ []) false
    ∷ case (one ++ block 4 3 2 2) (2 ∷ 2 ∷ []) false
    ∷ case (block 4 2 0 1 ++ one ++ two) (3 ∷ 3 ∷ 3 ∷ []) false
    ∷ case (one ++ two ++ block 4 2 3 1) (2 ∷ 2 ∷ 2 ∷ []) false
    ∷ []

pub record CasesHold : Type 0 where
  pub lists : map (λ (c : Case). codes_of c.input) cases ≡ map (λ (c : Case). c.list) cases
  pub completeness : map (λ (c : Case). is_complete c.input c.list) cases ≡ map (λ (c : Case). c.complete) cases
  -- the archive of the third
  pub archive : in_order (two ++ spoiled ++ two ++ one) (3 ∷ 0 ∷ 1 ∷ 3 ∷ []) 2 ≡ one ++ two
  -- 14; the table's own, C above D in task 2; and nothing
  pub faults : map (λ (x : List ℕ × List ℕ). left_fault x.0 x.1) ((one, 2 ∷ []) ∷ (block 4 2 2 11 ++ one, 3 ∷ 3 ∷ []) ∷ (two ++ one, 3 ∷ 3 ∷ []) ∷ [])
      ≡ (at Mismatch 0 ∷ at BadTimes 2 ∷ Ok tt ∷ [])
  -- 15: no byte, a byte more than a block, 65 blocks; before 11. 11: an entry, or a byte, too few; before 14
  pub lengths : map (λ (s : List ℕ). salvage_fault s 0 0) ([] ∷ (one ++ (0 ∷ [])) ∷ replicate 33_280 0 ∷ []) ≡ replicate 3 (at BadCard 0)
  pub short : map (λ (x : ℕ × ℕ). salvage_fault spoiled x.0 x.1) ((0, 512) ∷ (1, 511) ∷ []) ≡ replicate 2 (at TooShort 0)
