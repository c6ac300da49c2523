-- The check of RFC 1071, by which request 2/12 of document 02 holds each block: the words in quotes are the RFC's.
use Rattle.std.specs.Prelude.{ℕ, zero, suc, ◌+◌, ◌-◌, ◌*◌, ◌/◌, List, length, get_or, leb}
use Rattle.basics.specs.Choice.{pick}

-- "Adjacent octets to be checksummed are paired to form 16-bit integers": the pair k, counted from 0. An odd octet at the end is paired with a zero
unfoldable pub word_at : List ℕ → ℕ → ℕ
word_at s k = get_or s (2 * k) 0 * 256 + get_or s (2 * k + 1) 0

-- "an 'end around carry', i.e., any overflows from the most significant bits are added into the least significant bits"
unfoldable pub ones_plus : ℕ → ℕ → ℕ
ones_plus x y = pick (leb (x + y) 65_535) (x + y) (x + y - 65_535)

-- "the 1's complement sum of these 16-bit integers", of the first n
unfoldable pub ones_sum : ℕ → List ℕ → ℕ
ones_sum zero s = 0
ones_sum (suc n) s = ones_plus (ones_sum n s) (word_at s n)

abbrev pub pairs_of : List ℕ → ℕ
pairs_of s = (length s + 1) / 2

-- "the 1's complement of this sum"
unfoldable pub check_of : List ℕ → ℕ
check_of s = 65_535 - ones_sum (pairs_of s) s
