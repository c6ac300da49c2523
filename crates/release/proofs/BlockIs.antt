-- A good block is the block of what it says.
-- Assumes nothing.
use Prim.Native.Nat.{ℕ, zero, suc, ◌+◌, ◌*◌, ◌≤◌, ◌<◌}
use mathlib.Core.Path.{◌≡◌, refl, sym, ap, ◌∙◌}
use mathlib.Core.Logic.{inl, inr}
use mathlib.Core.List.{List, ◌∷◌, ◌++◌, append_assoc, append-nil}
use native.Mathlib.Omega.{arith}
use native.Mathlib.Nat.{add-zero, add-suc, suc-add}
use lib.ListN.{take, drop, replicate, drop_of_length-le}
use lib.Seq.{drop-cons, take_at}
use Rattle.basics.specs.Over.{join_to}
use Rattle.basics.proofs.JoinLaws.{join_none, join_more, join_eq}
use Rattle.basics.proofs.RowLaws.{row_at}
use Rattle.table.specs.Limits.{max_resources}
use Rattle.table.specs.Empty.{unused_pair}
use Rattle.table.specs.At.{pair_of}
use Rattle.checksum.specs.Sum.{check_of}
use Rattle.block.specs.Numbers.{in_bytes, byte_at, number_at}
use Rattle.block.specs.Block.{head_bytes, times_bytes, entry_bytes, entries_bytes, body_of, block_of, head_in, pair_in, task_in}
use Rattle.block.proofs.NumberLaws.{number_two}
use Rattle.block.proofs.BlockLaws.{body_length}
use Rattle.release.specs.Undo.{Bytes}
use Rattle.release.specs.Refusals.{GoodBlock}
use Rattle.release.proofs.NumberBack.{put_back}

four_parts : (a b c d e : List ℕ) → a ++ b ++ c ++ d ++ e ≡ a ++ (b ++ (c ++ (d ++ e)))
four_parts a b c d e = simp append_assoc

module _ (s : List ℕ) (bytes : Bytes s) (g : GoodBlock s) where
  -- a number x in k bytes from a place on, and what stands behind it
  field_is : (at k next x : ℕ) → at + k ≡ next → next ≤ 512 → number_at s at k ≡ x → {z : List ℕ} → drop next s ≡ z → drop at s ≡ in_bytes k x ++ z
  field_is at k next x e h f q = put_back s bytes at k (omega (arith, g.long)) ∙ rw (e, f, q)

  byte_is : (i : ℕ) → number_at s i 1 ≡ byte_at s i
  unfolding number_at
  byte_is i = rw add-zero (omega arith)

  head_is : s ≡ head_bytes (head_in s) ++ drop 8 s
  unfolding in_bytes head_bytes head_in
  head_is =
      let mark : number_at s 0 2 ≡ 0x5442 = sym (number_two s 0) ∙ omega (arith, g.mark.0, g.mark.1) in
      let rest : number_at s 6 2 ≡ 0 = sym (number_two s 6) ∙ omega (arith, g.zeros 6 (inl (omega arith, omega arith)), g.zeros 7 (inl (omega arith, omega arith))) in
      field_is 0 2 2 0x5442 refl (omega arith) mark
      (field_is 2 1 3 1 refl (omega arith) (byte_is 2 ∙ g.version)
      (field_is 3 1 4 (byte_at s 3) refl (omega arith) (byte_is 3)
      (field_is 4 1 5 (byte_at s 4) refl (omega arith) (byte_is 4)
      (field_is 5 1 6 (byte_at s 5) refl (omega arith) (byte_is 5)
      (field_is 6 2 8 0 refl (omega arith) rest refl)))))

  times_are : drop 8 s ≡ times_bytes (task_in s) ++ drop 20 s
  unfolding in_bytes times_bytes task_in
  times_are =
      field_is 8 4 12 (number_at s 8 4) refl (omega arith) refl
      (field_is 12 4 16 (number_at s 12 4) refl (omega arith) refl
      (field_is 16 4 20 (number_at s 16 4) refl (omega arith) refl refl))

  entry_is : (k : ℕ) → k < max_resources → drop (20 + 10 * k) s ≡ entry_bytes (pair_in s k) ++ drop (20 + 10 * (k + 1)) s
  unfolding in_bytes entry_bytes pair_in
  entry_is k h =
      field_is (20 + 10 * k) 2 (22 + 10 * k) (number_at s (20 + 10 * k) 2) (omega arith) (omega arith) refl
      (field_is (22 + 10 * k) 4 (26 + 10 * k) (number_at s (22 + 10 * k) 4) (omega arith) (omega arith) refl
      (field_is (26 + 10 * k) 4 (20 + 10 * (k + 1)) (number_at s (26 + 10 * k) 4) (omega arith) (omega arith) refl refl))

  entries_to : (k : ℕ) → k ≤ max_resources → drop 20 s ≡ join_to k (λ j. entry_bytes (pair_in s j)) ++ drop (20 + 10 * k) s
  entries_to zero h = rw join_none
  entries_to (suc k) h =
      let n : suc k ≡ k + 1 = omega arith in
      entries_to k (omega arith) ∙ rw (n, join_more, append_assoc, entry_is k h)

  entries_are : drop 20 s ≡ entries_bytes (task_in s) ++ drop 180 s
  unfolding entries_bytes task_in
  entries_are =
      entries_to 16 (omega arith)
      ∙ ap (λ (l : List ℕ). l ++ drop 180 s)
      (join_eq 16 (λ j. entry_bytes (pair_in s j)) (λ j. entry_bytes (pair_of (task_in s) j)) (λ j h. ap entry_bytes (sym (row_at 16 j (pair_in s) unused_pair h))))

  zeros_from : (n at : ℕ) → at + n ≤ 510 → 180 ≤ at → drop at s ≡ replicate n 0 ++ drop (at + n) s
  zeros_from zero at h l = rw add-zero
  zeros_from (suc n) at h l =
      drop-cons s at 0 (omega (arith, g.long))
      ∙ rw (g.zeros at (inr (l, omega arith)), add-suc, ← suc-add) (ap (λ (z : List ℕ). 0 ∷ z) (zeros_from n (suc at) (omega arith) (omega arith)))

  body_is : s ≡ body_of (head_in s) (task_in s) ++ drop 510 s
  unfolding body_of
  body_is =
      head_is
      ∙ ap (λ (z : List ℕ). head_bytes (head_in s) ++ z)
      (times_are ∙ ap (λ (z : List ℕ). times_bytes (task_in s) ++ z) (entries_are ∙ ap (λ (z : List ℕ). entries_bytes (task_in s) ++ z) (zeros_from 330 180 (omega arith) (omega arith))))
      ∙ sym (four_parts (head_bytes (head_in s)) (times_bytes (task_in s)) (entries_bytes (task_in s)) (replicate 330 0) (drop 510 s))

  pub block_is : block_of (head_in s) (task_in s) ≡ s
  unfolding block_of
  block_is =
      let body = body_of (head_in s) (task_in s) in
      let t : take 510 s ≡ body = ap (take 510) body_is ∙ take_at body (drop 510 s) 510 (body_length _ _) in
      let c : number_at s 510 2 ≡ check_of body = g.check ∙ ap check_of t in
      let d : drop 510 s ≡ in_bytes 2 (check_of body) = field_is 510 2 512 (check_of body) refl (omega arith) c (drop_of_length-le s {i = 512} (omega (arith, g.long))) ∙ append-nil _ in
      sym (body_is ∙ ap (λ (z : List ℕ). body ++ z) d)
