-- A block that was written is good, and says what was written.
-- Assumes nothing.
use Prim.Native.Nat.{ℕ, ◌+◌, ◌-◌, ◌*◌, ◌≤◌, ◌<◌}
use mathlib.Core.Path.{◌≡◌, refl, sym, ap, ◌∙◌}
use mathlib.Core.Logic.{◌⊎◌, inl, inr}
use mathlib.Core.List.{List, ◌++◌, append_assoc}
use native.Mathlib.Omega.{arith}
use native.Mathlib.Decide.{ℕ_discrete}
use lib.ListN.{length, take, replicate, length-append, length-replicate, get_or-replicate, get_or-append}
use lib.Seq.{take_at, get_or-append-add}
use Rattle.basics.proofs.JoinLaws.{join_at}
use Rattle.basics.proofs.RowLaws.{row_eq}
use Rattle.table.specs.declared.Pair.{Pair}
use Rattle.table.specs.declared.Task.{Task}
use Rattle.table.specs.Limits.{max_resources}
use Rattle.table.specs.At.{with_alpha, pair_of}
use Rattle.table.specs.Cleared.{cleared_task}
use Rattle.checksum.specs.Sum.{check_of}
use Rattle.block.specs.declared.Head.{Head}
use Rattle.block.specs.Numbers.{in_bytes, byte_at, number_at}
use Rattle.block.specs.Block.{head_bytes, times_bytes, entry_bytes, entries_bytes, body_of, block_of, head_in, pair_in, task_in}
use Rattle.block.proofs.BlockLaws.{head_length, times_length, entry_length, entries_length, body_length, block_length}
use Rattle.release.specs.Refusals.{GoodBlock}
use Rattle.release.proofs.NumberBack.{number_eq, one_back, two_back, four_back}

-- the numbers fit their bytes
pub record Fits (h : Head) (x : Task) : Type 0 where
  pub cpus : h.cpus < 256
  pub n : h.n < 256
  pub number : h.number < 256
  pub period : x.period < 4_294_967_296
  pub run : x.run < 4_294_967_296
  pub deadline : x.deadline < 4_294_967_296
  pub requests : (k : ℕ) → k < max_resources → (pair_of x k).requests < 65_536
  pub longest : (k : ℕ) → k < max_resources → (pair_of x k).longest < 4_294_967_296
  pub total : (k : ℕ) → k < max_resources → (pair_of x k).total < 4_294_967_296

check_fits : (s : List ℕ) → check_of s < 65_536
unfolding check_of
check_fits s = omega arith

-- an entry's numbers
entry_numbers : (p : Pair) → p.requests < 65_536 → p.longest < 4_294_967_296 → p.total < 4_294_967_296
    → (number_at (entry_bytes p) 0 2 ≡ p.requests) × (number_at (entry_bytes p) 2 4 ≡ p.longest) × (number_at (entry_bytes p) 6 4 ≡ p.total)
unfolding entry_bytes in_bytes number_at
entry_numbers p n c ct = (two_back _ n, four_back _ c, four_back _ ct)

module _ (h : Head) (x : Task) where
  -- the bytes before the zeros, and those from there on
  abbrev front : List ℕ
  front = head_bytes h ++ times_bytes x ++ entries_bytes x

  abbrev back : List ℕ
  back = replicate 330 0 ++ in_bytes 2 (check_of (body_of h x))

  front_length : length front ≡ 180
  front_length = simp length-append (omega (arith, head_length h, times_length x, entries_length x))

  parted : block_of h x ≡ front ++ back
  unfolding block_of body_of
  parted = append_assoc front (replicate 330 0) (in_bytes 2 (check_of (body_of h x)))

  -- an entry's bytes
  entry_at : (k j : ℕ) → k < max_resources → j < 10 → byte_at (entries_bytes x) (10 * k + j) ≡ byte_at (entry_bytes (pair_of x k)) j
  unfolding entries_bytes
  entry_at k j l m = join_at 16 10 k j (λ i. entry_bytes (pair_of x i)) 0 (λ i _. entry_length (pair_of x i)) l m

  entry_byte : (k j i : ℕ) → k < max_resources → j < 10 → i ≡ 20 + 10 * k + j → byte_at (block_of h x) i ≡ byte_at (entry_bytes (pair_of x k)) j
  entry_byte k j i l m e =
      let start = head_bytes h ++ times_bytes x in
      let n : length start ≡ 20 = length-append (head_bytes h) (times_bytes x) ∙ omega (arith, head_length h, times_length x) in
      let q : i ≡ length start + (10 * k + j) = omega arith in
      rw (parted, append_assoc start (entries_bytes x) back, q) (
      get_or-append-add start (entries_bytes x ++ back) (10 * k + j) 0
      ∙ get_or-append (entries_bytes x) back 0 (10 * k + j) (omega (arith, entries_length x))
      ∙ entry_at k j l m)

  -- and those from the zeros on
  back_byte : (i j : ℕ) → i ≡ 180 + j → byte_at (block_of h x) i ≡ byte_at back j
  back_byte i j e =
      let q : i ≡ length front + j = omega (arith, front_length) in
      rw (parted, q) (get_or-append-add front back j 0)

  check_byte : (j : ℕ) → byte_at (block_of h x) (510 + j) ≡ byte_at (in_bytes 2 (check_of (body_of h x))) (0 + j)
  check_byte j =
      let q : 330 + j ≡ length (replicate {A = ℕ} 330 0) + j = omega (arith, length-replicate {A = ℕ} 330 0) in
      let z : 0 + j ≡ j = omega arith in
      back_byte (510 + j) (330 + j) (omega arith) ∙ rw (q, z) (get_or-append-add (replicate 330 0) (in_bytes 2 (check_of (body_of h x))) j 0)

  check_back : number_at (block_of h x) 510 2 ≡ check_of (take 510 (block_of h x))
  unfolding block_of
  check_back =
      number_eq (block_of h x) (in_bytes 2 (check_of (body_of h x))) 510 0 2 (λ j l. check_byte j)
      ∙ two_back (check_of (body_of h x)) (check_fits (body_of h x))
      ∙ ap check_of (sym (take_at (body_of h x) (in_bytes 2 (check_of (body_of h x))) 510 (body_length h x)))

  head_zeros : (byte_at (block_of h x) 6 ≡ 0) × (byte_at (block_of h x) 7 ≡ 0)
  unfolding block_of body_of head_bytes in_bytes
  head_zeros = (refl, refl)

  zeros_back : (i : ℕ) → ((6 ≤ i) × (i < 8)) ⊎ ((180 ≤ i) × (i < 510)) → byte_at (block_of h x) i ≡ 0
  zeros_back i (inl l) = go (ℕ_discrete i 6)
    where
      go : Dec (i ≡ 6) → byte_at (block_of h x) i ≡ 0
      go (yes e) = rw e head_zeros.0
      go (no d) = let e : i ≡ 7 = omega arith in rw e head_zeros.1
  zeros_back i (inr l) =
      back_byte i (i - 180) (omega arith)
      ∙ get_or-append (replicate 330 0) (in_bytes 2 (check_of (body_of h x))) 0 (i - 180) (omega (arith, length-replicate {A = ℕ} 330 0))
      ∙ get_or-replicate 330 (i - 180) 0 0 (omega arith)

  pub good_back : GoodBlock (block_of h x)
  unfolding block_of body_of head_bytes in_bytes
  good_back = record { long = block_length h x; check = check_back; mark = (refl, refl); version = refl; zeros = zeros_back }

  module _ (f : Fits h x) where
    pub head_back : head_in (block_of h x) ≡ h
    unfolding head_in block_of body_of head_bytes in_bytes
    head_back = λ i. record { cpus = one_back _ f.cpus i; n = one_back _ f.n i; number = one_back _ f.number i }

    times_back : (number_at (block_of h x) 8 4 ≡ x.period) × (number_at (block_of h x) 12 4 ≡ x.run) × (number_at (block_of h x) 16 4 ≡ x.deadline)
    unfolding block_of body_of head_bytes times_bytes in_bytes number_at
    times_back = (four_back _ f.period, four_back _ f.run, four_back _ f.deadline)

    pair_back : (k : ℕ) → k < max_resources → pair_in (block_of h x) k ≡ pair_of x k
    unfolding pair_in
    pair_back k l =
        let p = pair_of x k in
        let e = entry_numbers p (f.requests k l) (f.longest k l) (f.total k l) in
        let at : (o m : ℕ) → o + m ≤ 10 → (i : ℕ) → i ≡ 20 + 10 * k + o → number_at (block_of h x) i m ≡ number_at (entry_bytes p) o m =
        λ o m w i q. number_eq (block_of h x) (entry_bytes p) i o m (λ j d. entry_byte k (o + j) (i + j) l (omega arith) (omega arith)) in
        rw (at 0 2 (omega arith) (20 + 10 * k) (omega arith), at 2 4 (omega arith) (22 + 10 * k) (omega arith), at 6 4 (omega arith) (26 + 10 * k) (omega arith), e.0, e.1, e.2)

    pub task_back : task_in (block_of h x) ≡ cleared_task (with_alpha 0 x)
    unfolding task_in cleared_task
    task_back =
        rw (times_back.0, times_back.1, times_back.2, row_eq max_resources (pair_in (block_of h x)) (pair_of x) pair_back)
