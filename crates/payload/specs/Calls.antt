-- What the payload's functions ask and give. What `compose` gives is said by `payload`, what `open` gives by `open_refusal`, `message_of` and `mode_of`.
-- Assumes nothing.
use Rattle.std.specs.Prelude.{List, map, ◌++◌, ◌≡◌, ℕ, ◌+◌, ◌≤◌, ◌<◌, length, get_or, drop, Result, Ok}
use Rattle.refusals.specs.declared.Refusal.{Refusal}
use Rattle.refusals.specs.Refusals.{refused, answered}
use Rattle.bits.specs.Bits.{is_one}
use Rattle.payload.specs.Payload.{payload_bits}
use Rattle.payload.specs.Open.{open_refusal, message_of, mode_of}

-- a message that can be sent, and room for its payload
pub record Composable (message : List ℕ) (mode : ℕ) (bits : List ℕ) : Type 0 where
  pub least : 20 ≤ length message
  pub most : length message ≤ 255
  pub two_bits : mode < 4
  pub room : payload_bits (length message) ≤ length bits

-- every byte carries a bit: it is 0 or 1
abbrev pub Binary : List ℕ → Type 0
Binary bits = (i : ℕ) → i < length bits → get_or bits i 0 < 2

-- a part of the bits, and every byte a bit
pub record PartOf (bits : List ℕ) (at size : ℕ) : Type 0 where
  pub within : at + size ≤ length bits
  pub binary : Binary bits

-- the payload bits of a message of l bytes, one byte to a bit
pub record Checkable (bits : List ℕ) (l : ℕ) : Type 0 where
  pub least : 20 ≤ l
  pub most : l ≤ 255
  pub sized : length bits ≡ payload_bits l
  pub binary : Binary bits

-- the same, and room for the message
pub record Openable (bits : List ℕ) (l : ℕ) (message : List ℕ) : Type 0 where
  pub least : 20 ≤ l
  pub most : l ≤ 255
  pub sized : length bits ≡ payload_bits l
  pub room : l ≤ length message
  pub binary : Binary bits

-- what opening gives: the number of the first check that fails. Where none does, the mode, and the message at the start of the buffer; where one does, the
-- buffer as it came
pub record Opening (l : ℕ) (bits old new : List ℕ) (r : Result ℕ Refusal) : Type 0 where
  pub number : refused r ≡ open_refusal l (map is_one bits)
  pub done : open_refusal l (map is_one bits) ≡ 0 → r ≡ Ok (answered r)
  pub mode : open_refusal l (map is_one bits) ≡ 0 → answered r ≡ mode_of l (map is_one bits)
  pub message : open_refusal l (map is_one bits) ≡ 0 → new ≡ message_of l (map is_one bits) ++ drop l old
  pub kept : (open_refusal l (map is_one bits) ≡ 0 → ⊥) → new ≡ old
