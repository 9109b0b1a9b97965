-- Cyclic redundancy checks, TS 103 357 clause 6.4.6.2, over a width, a polynomial and an initial value; most significant bit first, no final xor.
-- To be believed: crc_step, crc_from, crc8. Assumes nothing.
use Rattle.std.specs.Prelude.{Bool, cond, List, [], ◌∷◌, ℕ, ◌*◌, ◌%◌, ◌^◌, leb}
use Rattle.std.specs.Bool.{xor}
use Rattle.std.specs.Int.Bits.{bit_xor}

-- a register of the given width takes one more bit: it moves up by one place, and the polynomial is laid over it where the bit that leaves it differs from the one that is taken
unfoldable pub crc_step : ℕ → ℕ → ℕ → Bool → ℕ
crc_step width polynomial r b =
    cond (xor (leb (2 ^ width) (r * 2)) b) (bit_xor (r * 2 % 2 ^ width) polynomial) (r * 2 % 2 ^ width)

-- the register after a run of bits, from the value that it has before them
unfoldable pub crc_from : ℕ → ℕ → ℕ → List Bool → ℕ
crc_from width polynomial r [] = r
crc_from width polynomial r (b ∷ bs) = crc_from width polynomial (crc_step width polynomial r b) bs

-- CRC-8: polynomial 0x9B, initial value 0xFF, no xor
unfoldable pub crc8 : List Bool → ℕ
crc8 bs = crc_from 8 0x9B 0xFF bs
