-- What the coder's functions ask and give. Nothing here has to be believed: what `encode` gives is said by `coded` alone.
-- Assumes nothing.
use Rattle.std.specs.Prelude.{cond, ◌≡◌, ℕ, ◌+◌, ◌*◌, ◌≤◌, ◌<◌, length, drop}
use mathlib.Core.List.{List, map, ◌++◌, reverse_aux}
use Rattle.bits.specs.Bits.{bit, is_one, bits_of}
use Rattle.coder.specs.Coder.{coded_after, uplink_words}
use Rattle.coder.specs.Register.{Holds}

-- r has the bit that the byte v carries, highest, and the six bits s
pub record Entered (v s r : ℕ) : Type 0 where
  pub number : r ≡ cond (is_one v) (s + 64) s
  pub below : r < 128

-- six bits as a number, and room for the output bits of a run
pub record RunRoom (s : ℕ) (bits out : List ℕ) : Type 0 where
  pub state : s < 64
  pub room : 3 * length bits ≤ length out

-- a run of bits was coded after the six bits s, and r has the last six then
pub record Ran (s : ℕ) (bits old out : List ℕ) (r : ℕ) : Type 0 where
  pub written : out ≡ map bit (coded_after uplink_words (bits_of 6 s) (map is_one bits)) ++ drop (3 * length bits) old
  pub held : Holds (reverse_aux (map is_one bits) (bits_of 6 s)) r
