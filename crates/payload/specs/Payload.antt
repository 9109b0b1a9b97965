-- The UL-ULP PHY payload, TS 103 357 clauses 6.4.2.3 and 6.4.4.4, Table 6-33: header CRC, payload CRC, PSI, PSDU, MMode.
-- To be believed: payload_bits, psdu, payload_crc, header_crc, payload. Assumes nothing.
use Rattle.std.specs.Prelude.{Bool, List, ◌++◌, ℕ, ◌+◌, ◌-◌, ◌*◌, length, replicate}
use Rattle.bits.specs.Bits.{bits_of, bits_of_bytes}
use Rattle.crc.specs.Crc.{crc8}

-- document 01, "Length": besides the l bytes of the message the payload has 26 bits
abbrev pub payload_bits : ℕ → ℕ
payload_bits l = 26 + 8 * l

-- 6.4.2.3.5: the PSDU is the MPDU, filled to 20 bytes by zeros behind it. A message of the product has 20 bytes or more and is not filled
unfoldable pub psdu : List ℕ → List ℕ
psdu mpdu = mpdu ++ replicate (20 - length mpdu) 0

-- 6.4.4.4.1: over MPDU and MMode; padded zeros are left out. MMode is two bits, the most significant first (docs/DECISIONS.md, "MMode")
unfoldable pub payload_crc : List ℕ → ℕ → ℕ
payload_crc mpdu mode = crc8 (bits_of_bytes mpdu ++ bits_of 2 mode)

-- 6.4.4.4.2: over payload CRC and PSI. 6.4.2.3.4: PSI is the length of the PSDU before zero padding
unfoldable pub header_crc : List ℕ → ℕ → ℕ
header_crc mpdu mode = crc8 (bits_of 8 (payload_crc mpdu mode) ++ bits_of 8 (length mpdu))

-- Table 6-33: header CRC 8, payload CRC 8, PSI 8, PSDU, MMode 2, each most significant bit first
unfoldable pub payload : List ℕ → ℕ → List Bool
payload mpdu mode =
    bits_of 8 (header_crc mpdu mode)
    ++ bits_of 8 (payload_crc mpdu mode)
    ++ bits_of 8 (length mpdu)
    ++ bits_of_bytes (psdu mpdu)
    ++ bits_of 2 mode
