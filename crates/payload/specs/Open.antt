-- The way back, document 01, "From soft values to message": the fields of n payload bits, and the checks in their order: header CRC, then PSI, then payload CRC.
-- To be believed: the fields, open_refusal, message_of, mode_of. Assumes nothing.
use Rattle.std.specs.Prelude.{Bool, cond, List, [], ◌∷◌, ℕ, zero, suc, ◌+◌, ◌*◌, eqb, take, drop}
use Rattle.bits.specs.Bits.{number_of}
use Rattle.crc.specs.Crc.{crc8}

-- Table 6-33: the fields of the payload bits of a message of l bytes
abbrev pub header_field : List Bool → ℕ
header_field bs = number_of (take 8 bs)

abbrev pub payload_field : List Bool → ℕ
payload_field bs = number_of (take 8 (drop 8 bs))

abbrev pub psi_field : List Bool → ℕ
psi_field bs = number_of (take 8 (drop 16 bs))

-- the bytes that so many times eight bits make
unfoldable pub bytes_of : ℕ → List Bool → List ℕ
bytes_of zero bs = []
bytes_of (suc l) bs = number_of (take 8 bs) ∷ bytes_of l (drop 8 bs)

abbrev pub message_of : ℕ → List Bool → List ℕ
message_of l bs = bytes_of l (drop 24 bs)

abbrev pub mode_of : ℕ → List Bool → ℕ
mode_of l bs = number_of (take 2 (drop (24 + 8 * l) bs))

-- 6.4.4.4: what the two CRCs have to be. The header CRC is over payload CRC and PSI, which stand together; the payload CRC over message and MMode, which do too
abbrev pub header_check : List Bool → ℕ
header_check bs = crc8 (take 16 (drop 8 bs))

abbrev pub payload_check : ℕ → List Bool → ℕ
payload_check l bs = crc8 (take (8 * l + 2) (drop 24 bs))

-- the number of the first check that fails: 7 header CRC wrong, 8 PSI is not l, 9 payload CRC wrong; 0 where none does
unfoldable pub open_refusal : ℕ → List Bool → ℕ
open_refusal l bs =
    cond (eqb (header_field bs) (header_check bs))
    (cond (eqb (psi_field bs) l) (cond (eqb (payload_field bs) (payload_check l bs)) 0 9) 8)
    7
