-- Bytes and the check of each: one list, one statement over it, computed.
use Rattle.std.specs.Prelude.{ℕ, ◌≡◌, List, [], ◌∷◌, map, replicate}
use Rattle.checksum.specs.Sum.{check_of}

pub record Case : Type 0 where
  pub octets : List ℕ
  pub check : ℕ

abbrev case : List ℕ → ℕ → Case
case octets check = record { octets = octets; check = check }

unfoldable pub cases : List Case
cases =
    -- RFC 1071's own example, section 3: the sum is hex DDF2
    case (0x00 ∷ 0x01 ∷ 0xf2 ∷ 0x03 ∷ 0xf4 ∷ 0xf5 ∷ 0xf6 ∷ 0xf7 ∷ []) 0x220d
    -- an odd octet at the end; none at all
    ∷ case (0x01 ∷ []) 0xfeff
    ∷ case (0x00 ∷ 0x01 ∷ 0x02 ∷ []) 0xfdfe
    ∷ case [] 0xffff
    -- zeros leave the sum 0, and hex FFFF, the other zero of the ones' complement, is reached by adding only
    ∷ case (replicate 510 0) 0xffff
    ∷ case (0xff ∷ 0xff ∷ []) 0
    ∷ case (0xff ∷ 0xfe ∷ 0x00 ∷ 0x01 ∷ []) 0
    -- a carry that is added back; and one such for each of 254 words
    ∷ case (0xff ∷ 0xff ∷ 0x00 ∷ 0x01 ∷ []) 0xfffe
    ∷ case (replicate 510 0xff) 0
    ∷ []

abbrev pub CasesHold : Type 0
CasesHold = map (λ (c : Case). check_of c.octets) cases ≡ map (λ (c : Case). c.check) cases
