-- A bit, the byte that carries it in a buffer, and the bits of a number in a field of given width, most significant first.
-- To be believed: bit, is_one, bits_of, bits_of_bytes, number_of. Assumes nothing.
use Rattle.std.specs.Prelude.{Bool, cond, List, [], ◌∷◌, ◌++◌, ℕ, zero, suc, ◌+◌, ◌*◌, ◌/◌, ◌%◌, ◌^◌, eqb, length}

-- the byte that carries a bit: 1 or 0
abbrev pub bit : Bool → ℕ
bit b = cond b 1 0

-- the bit that a byte carries: 1 says 1, and any other byte 0
abbrev pub is_one : ℕ → Bool
is_one v = eqb v 1

-- the bits of a number in a field of the given width, most significant first
unfoldable pub bits_of : ℕ → ℕ → List Bool
bits_of zero x = []
bits_of (suc k) x = is_one (x / 2 ^ k % 2) ∷ bits_of k x

-- the bits of bytes in order, each most significant first
unfoldable pub bits_of_bytes : List ℕ → List Bool
bits_of_bytes [] = []
bits_of_bytes (x ∷ xs) = bits_of 8 x ++ bits_of_bytes xs

-- the number that a field's bits make, most significant first
unfoldable pub number_of : List Bool → ℕ
number_of [] = 0
number_of (b ∷ bs) = bit b * 2 ^ length bs + number_of bs
