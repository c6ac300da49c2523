-- How long the lines are, and that those of the list are those of the blocks.
-- Assumes nothing.
use Prim.Native.Nat.{ℕ, ◌+◌, ◌*◌, ◌/◌, ◌≤◌}
use mathlib.Core.Path.{◌≡◌, refl, ap, ◌∙◌}
use mathlib.Core.Bool.{Bool, true, false}
use mathlib.Core.List.{List, ◌++◌}
use native.Mathlib.Nat.{le_refl}
use native.Mathlib.Omega.{arith}
use borrow.Author.Tests.{le-leb}
use lib.ListN.{length, take, drop, length-append, length-take}
use lib.Seq.{take_at}
use lib.Dec.{eqb}
use Rattle.basics.specs.Choice.{pick}
use Rattle.basics.specs.Over.{join_to, row_to}
use Rattle.basics.proofs.JoinLaws.{join_bound, join_eq}
use Rattle.basics.proofs.RowLaws.{row_length, row_at}
use Rattle.table.specs.Faults.{Checked}
use Rattle.std.specs.Prelude.{Ok, Err}
use Rattle.table.specs.Answers.{Written, or_wrote}
use Rattle.put.proofs.TextLaws.{count_small}
use Rattle.refusal.specs.declared.Source.TheVariants.{Card}
use Rattle.refusal.proofs.LineLaws.{refusal_most}
use Rattle.block.specs.Numbers.{byte_at}
use Rattle.salvaging.specs.declared.Fate.{Fate}
use Rattle.salvaging.specs.declared.Fate.TheVariants.{Bad, Doubled, Kept, Moved}
use Rattle.salvaging.specs.Fates.{code_of, fate_at, code_at, codes_of}
use Rattle.salvaging.specs.Salvage.{max_blocks, is_card, blocks_of, has_room, room_fault, salvage_fault, salvage_answer, listed}
use Rattle.salvaging.proofs.AnswerLaws.{card_whole, looked_bounds}
use Rattle.salvaging.proofs.FoundLaws.{codes_length, blocks, blocks_room, answer_is}
use Rattle.salvage.specs.Telling.{max_card, fate_word, code_word, word_line, fate_line, code_line, wrote_length, refused_by}

-- ---- how long the parts are

pub word_most : (code : ℕ) → length (code_word code) ≤ 7
word_most code = go (eqb code 0) (eqb code 1) (eqb code 2)
  where
    go : (a b c : Bool) → length (pick a (fate_word Bad) (pick b (fate_word Doubled) (pick c (fate_word Kept) (fate_word Moved)))) ≤ 7
    go true b c = omega arith
    go false true c = omega arith
    go false false true = omega arith
    go false false false = omega arith

pub line_most : (position code : ℕ) → position ≤ max_blocks → length (word_line position (code_word code)) ≤ 19
unfolding word_line
line_most position code h = simp length-append (omega (arith, count_small position (omega arith), word_most code))

pub lines_most : (n : ℕ) (list : List ℕ) → n ≤ max_blocks → length (join_to n (code_line list)) ≤ n * 19
lines_most n list h = join_bound n 19 (code_line list) (λ i l. line_most (i + 1) (byte_at list i) (omega arith))

-- ---- from the list to the blocks

word_is : (f : Fate) → code_word (code_of f) ≡ fate_word f
word_is Bad = refl
word_is Doubled = refl
word_is Kept = refl
word_is Moved = refl

-- the lines of the codes of the first k blocks
pub lines_are : (s : List ℕ) (k : ℕ) → join_to (length (row_to k (code_at s))) (code_line (row_to k (code_at s))) ≡ join_to k (fate_line s)
lines_are s k =
    rw row_length (join_eq k (code_line (row_to k (code_at s))) (fate_line s) (λ i h. ap (word_line (i + 1)) (ap code_word (row_at k i (code_at s) 0 h) ∙ word_is (fate_at s i))))

-- where there is room for every card, the list holds them
list_card : (s list : List ℕ) (room : ℕ) → max_blocks ≤ length list → max_card ≤ room → is_card (length s) ≡ true → listed s list room ≡ codes_of s ++ drop (length (codes_of s)) list
unfolding listed room_fault has_room
list_card s list room h r e =
    let c = card_whole (length s) e in
    rw (e, le-leb (length s / 512) (length list) (omega (arith, c.2)), le-leb (length s) room (omega (arith, c.0, c.2)))

pub list_is : (s list : List ℕ) (room : ℕ) → max_blocks ≤ length list → max_card ≤ room → take (blocks_of (length s)) (listed s list room) ≡ row_to (blocks_of (length s)) (code_at s)
unfolding blocks_of codes_of join_to
list_is s list room h r = go (is_card (length s)) refl
  where
    go : (b : Bool) → is_card (length s) ≡ b → take (pick b (length s / 512) 0) (listed s list room) ≡ row_to (pick b (length s / 512) 0) (code_at s)
    go true e = ap (take (length s / 512)) (list_card s list room h r e) ∙ take_at (codes_of s) (drop (length (codes_of s)) list) (length s / 512) (codes_length s)
    go false e = refl

-- ---- the k entries of a list l that are shown

pub shown_few : (s : List ℕ) {k : ℕ} → k ≡ blocks_of (length s) → k ≤ max_blocks
shown_few s e = omega (arith, (looked_bounds (length s)).1)

pub shown_most : (s l : List ℕ) {k : ℕ} → k ≡ blocks_of (length s) → length (join_to (length (take k l)) (code_line (take k l))) ≤ 1_216
shown_most s l {k} e =
    let n : length (take k l) ≤ max_blocks = omega (arith, length-take k l, shown_few s e) in
    omega (arith, lines_most (length (take k l)) (take k l) n)

pub shown_are : (s list : List ℕ) (room : ℕ) → max_blocks ≤ length list → max_card ≤ room → {k : ℕ} {l : List ℕ} → k ≡ blocks_of (length s) → l ≡ listed s list room
    → join_to (length (take k l)) (code_line (take k l)) ≡ join_to (blocks_of (length s)) (fate_line s)
shown_are s list room h r e f = rw (e, f, list_is s list room h r) (lines_are s (blocks_of (length s)))

-- ---- the refusal

pub refused_most : (w : Written) → length (refused_by w) ≤ 56
refused_most (Ok n) = omega arith
refused_most (Err r) = refusal_most Card r

-- ---- the archive is within its area

written_most : (c : Checked) (n : ℕ) → wrote_length (or_wrote c n) ≤ n
written_most (Ok _) n = le_refl n
written_most (Err r) n = omega arith

pub archive_most : (s : List ℕ) (entries room : ℕ) {x : ℕ} → x ≡ wrote_length (salvage_answer s entries room) → x ≤ room
archive_most s entries room e = rw (e, ← answer_is s entries room) (omega (arith, written_most (salvage_fault s entries room) (512 * blocks s entries room), blocks_room s entries room))
