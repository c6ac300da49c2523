-- One changed byte never goes unnoticed (specs/Undo.antt).
-- Assumes nothing.
use Prim.Native.Nat.{ℕ, ◌+◌, ◌-◌, ◌*◌, ◌/◌, ◌%◌, ◌≤◌, ◌<◌}
use mathlib.Core.Path.{◌≡◌, refl, sym, ap, ◌∙◌}
use mathlib.Core.Bool.{Bool, true, false}
use mathlib.Core.List.{List}
use native.Mathlib.Omega.{arith}
use native.Mathlib.Decide.{ℕ_discrete, dec_lt}
use lib.ListN.{length, set, take, drop, length-set, get_or-eq_default}
use lib.Seq.{length-take-le, get_or-take, get_or-set_same, get_or-set_other, take-set-le, take-set-lt, drop-set-add, get_or-drop}
use Rattle.table.specs.declared.Fault.TheVariants.{BadBlock}
use Rattle.std.specs.Prelude.{Ok}
use Rattle.table.specs.Faults.{at}
use Rattle.table.proofs.FirstLaws.{first_fine, first_at}
use Rattle.checksum.specs.Sum.{check_of}
use Rattle.block.specs.Numbers.{byte_at, number_at}
use Rattle.block.specs.Block.{good_block}
use Rattle.block.proofs.NumberLaws.{number_two}
use Rattle.card.specs.Archive.{block_at, blocks_in, block_fault, block_fault_at, blocks_fault, archive_fault}
use Rattle.card.proofs.ReadLaws.{answer_is, accepted_is}
use Rattle.release.specs.Undo.{Bytes, Noticed}
use Rattle.release.specs.Refusals.{Whole, GoodBlock}
use Rattle.release.proofs.NumberBack.{number_eq}
use Rattle.release.proofs.GoodLaws.{good_is}
use Rattle.release.proofs.Parts.{block_bytes, is_whole, block_fine, Kept, fine_kept}
use Rattle.release.proofs.Changed.{check_changes}

-- ---- a good block with one byte changed is not good

module _ (b : List ℕ) (r v : ℕ) (bytes : Bytes b) (g : GoodBlock b) (h : r < 512) (l : v < 256) (ne : v ≡ byte_at b r → ⊥) where
  -- a byte that the check is over
  in_body : r < 510 → GoodBlock (set b r v) → ⊥
  in_body m q =
      let body : List ℕ = take 510 b in
      let n : number_at (set b r v) 510 2 ≡ number_at b 510 2 = number_eq (set b r v) b 510 510 2 (λ j d. get_or-set_other b r (510 + j) v 0 (λ e. omega arith)) in
      let c : check_of (set body r v) ≡ check_of body = ap check_of (sym (take-set-lt 510 b r v m)) ∙ sym q.check ∙ n ∙ g.check in
      let w : length body ≡ 510 = length-take-le 510 b (omega (arith, g.long)) in
      check_changes body r v body_bytes (omega arith) l (λ e. ne (e ∙ get_or-take 510 b r 0 m)) c
    where
      body_bytes : Bytes (take 510 b)
      body_bytes i = go (dec_lt i 510)
        where
          go : Dec (i < 510) → byte_at (take 510 b) i < 256
          go (yes d) = rw (get_or-take 510 b i 0 d) (bytes i)
          go (no d) = rw (get_or-eq_default (take 510 b) 0 {n = i} (omega (arith, length-take-le 510 b (omega (arith, g.long))))) (omega arith)

  -- a byte of the check
  in_check : 510 ≤ r → GoodBlock (set b r v) → ⊥
  in_check m q =
      let n : number_at (set b r v) 510 2 ≡ number_at b 510 2 = q.check ∙ ap check_of (take-set-le 510 b r v m) ∙ sym g.check in
      let e : byte_at (set b r v) 510 * 256 + byte_at (set b r v) 511 ≡ byte_at b 510 * 256 + byte_at b 511 = number_two (set b r v) 510 ∙ n ∙ sym (number_two b 510) in
      ne (go (ℕ_discrete r 510) e)
    where
      new : byte_at (set b r v) r ≡ v
      new = get_or-set_same b r v 0 (omega (arith, g.long))

      go : Dec (r ≡ 510) → byte_at (set b r v) 510 * 256 + byte_at (set b r v) 511 ≡ byte_at b 510 * 256 + byte_at b 511 → v ≡ byte_at b r
      go (yes d) e =
          let x : byte_at (set b r v) 510 ≡ v = ap (byte_at (set b r v)) (sym d) ∙ new in
          let y : byte_at (set b r v) 511 ≡ byte_at b 511 = get_or-set_other b r 511 v 0 (λ k. omega arith) in
          let z : v ≡ byte_at b 510 = omega (arith, e, x, y) in
          z ∙ ap (byte_at b) (sym d)
      go (no d) e =
          let k : r ≡ 511 = omega arith in
          let x : byte_at (set b r v) 511 ≡ v = ap (byte_at (set b r v)) (sym k) ∙ new in
          let y : byte_at (set b r v) 510 ≡ byte_at b 510 = get_or-set_other b r 510 v 0 (λ i. omega arith) in
          let z : v ≡ byte_at b 511 = omega (arith, e, x, y) in
          z ∙ ap (byte_at b) (sym k)

  spoiled : good_block (set b r v) ≡ false
  spoiled = go (good_block (set b r v)) refl (dec_lt r 510)
    where
      go : (x : Bool) → good_block (set b r v) ≡ x → Dec (r < 510) → x ≡ false
      go true e (yes d) = absurd (in_body d (good_is (set b r v) e))
      go true e (no d) = absurd (in_check (omega arith) (good_is (set b r v) e))
      go false e d = refl

-- ---- an archive with one byte changed

module _ (a : List ℕ) (i q r v : ℕ) where
  -- the blocks before it stay
  before_same : i < q → block_at (set a (512 * q + r) v) i ≡ block_at a i
  before_same h =
      let k : 512 * q + r ≡ 512 * i + (512 * q + r - 512 * i) = omega arith in
      rw (k, drop-set-add (512 * i) a (512 * q + r - 512 * i) v) (take-set-le 512 (drop (512 * i) a) (512 * q + r - 512 * i) v (omega arith))

module _ (a : List ℕ) (q r v : ℕ) where
  -- and it is the block with that byte changed
  block_set : r < 512 → block_at (set a (512 * q + r) v) q ≡ set (block_at a q) r v
  block_set h = rw (drop-set-add (512 * q) a r v) (take-set-lt 512 (drop (512 * q) a) r v h)

  module _ (bytes : Bytes a) (k : Kept a) (h : r < 512) (l : v < 256) (ne : v ≡ byte_at a (512 * q + r) → ⊥) (m : 512 * q + r < length a) where
    there : q < blocks_in a
    there = omega arith

    blocks_same : blocks_in (set a (512 * q + r) v) ≡ blocks_in a
    blocks_same = rw (length-set a (512 * q + r) v)

    first_q : (i : ℕ) → i < q → block_fault_at (set a (512 * q + r) v) i ≡ Ok tt
    first_q i d =
        let g = k.good i (omega (arith, there)) in
        rw (before_same a i q r v d, before_same a 0 q r v (omega arith), blocks_same) (block_fine a i g.0 g.1)

    at_q : block_fault_at (set a (512 * q + r) v) q ≡ at BadBlock (q + 1)
    unfolding block_fault
    at_q =
        let g = (k.good q there).0 in
        let e : byte_at (block_at a q) r ≡ byte_at a (512 * q + r) = get_or-take 512 (drop (512 * q) a) r 0 h ∙ get_or-drop (512 * q) a r 0 in
        rw (block_set h, spoiled (block_at a q) r v (block_bytes a q bytes g.long) g h l (λ x. ne (x ∙ e)))

    pub refused_at : archive_fault (set a (512 * q + r) v) ≡ at BadBlock (q + 1)
    unfolding archive_fault blocks_fault
    refused_at =
        let w : Whole (set a (512 * q + r) v) (blocks_in a) = record { least = k.whole.least; most = k.whole.most; long = length-set a (512 * q + r) v ∙ k.whole.long } in
        let f = first_at (blocks_in (set a (512 * q + r) v)) q (block_fault_at (set a (512 * q + r) v)) _ (rw blocks_same there) (first_fine q (block_fault_at (set a (512 * q + r) v)) first_q) at_q in
        rw (is_whole (set a (512 * q + r) v) (blocks_in a) w, f)

pub noticed : Noticed
noticed a t j v bytes e h l ne =
    let p = accepted_is a t e in
    let s : j ≡ 512 * (j / 512) + j % 512 = omega arith in
    let f = refused_at a (j / 512) (j % 512) v bytes (fine_kept a p.0) (omega arith) l (rw (← s) ne) (rw (← s) h) in
    (_, answer_is (set a j v) ∙ rw (← s) at f, record { number = refl; place = refl })
