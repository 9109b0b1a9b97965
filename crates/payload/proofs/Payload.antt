-- Laws of the payload: a message of 20 bytes or more is not filled, so that the payload is its five fields one after another,
-- 26 + 8 l bits. Assumes nothing.
use mathlib.Core.List.{List, ◌++◌, append-nil, append_assoc}
use mathlib.Core.Path.{◌≡◌, refl}
use Prim.Native.Nat.{ℕ, ◌-◌, ◌≤◌}
use native.Mathlib.Omega.{arith}
use lib.ListN.{length, length-append}
use Rattle.bits.specs.Bits.{bits_of, bits_of_bytes}
use Rattle.bits.proofs.Bits.{length-bits_of, length-bits_of_bytes}
use Rattle.crc.specs.Crc.{crc8}
use Rattle.payload.specs.Payload.{payload_bits, psdu, payload_crc, header_crc, payload}

pub psdu_unfilled : (message : List ℕ) → 20 ≤ length message → psdu message ≡ message
unfolding psdu
psdu_unfilled message h =
    let none : 20 - length message ≡ 0 = omega arith in
    rw none (append-nil message)

-- the five fields, one after another
pub payload_fields : (message : List ℕ) (mode : ℕ) → 20 ≤ length message
    → payload message mode
    ≡ bits_of 8 (header_crc message mode)
    ++ (bits_of 8 (payload_crc message mode) ++ (bits_of 8 (length message) ++ (bits_of_bytes message ++ bits_of 2 mode)))
unfolding payload
payload_fields message mode h = rw (psdu_unfilled message h) (simp append_assoc)

pub length-payload : (message : List ℕ) (mode : ℕ) → 20 ≤ length message
    → length (payload message mode) ≡ payload_bits (length message)
length-payload message mode h =
    rw (payload_fields message mode h) (simp (length-append, length-bits_of, length-bits_of_bytes) (omega arith))

-- the two CRCs, over the bits that they are taken over

pub header_crc-crc8 : (message : List ℕ) (mode : ℕ) → crc8 (bits_of 8 (payload_crc message mode) ++ bits_of 8 (length message)) ≡ header_crc message mode
unfolding header_crc
header_crc-crc8 message mode = refl

pub payload_crc-crc8 : (message : List ℕ) (mode : ℕ) → crc8 (bits_of_bytes message ++ bits_of 2 mode) ≡ payload_crc message mode
unfolding payload_crc
payload_crc-crc8 message mode = refl
