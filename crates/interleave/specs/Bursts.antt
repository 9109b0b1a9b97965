-- A frame as it is sent and as it is heard, document 01: which byte stands for which coded bit.
-- To be believed: Bursts, value_of, heard, received. Assumes nothing.
use Rattle.std.specs.Prelude.{cond, List, ◌≡◌, ℕ, ◌+◌, ◌-◌, ◌*◌, ◌<◌, ltb, eqb, length, get_or}
use Rattle.lists.specs.Lists.{firsts}
use Rattle.interleave.specs.Interleave.{coded_bits, sub_packets, packet_of, symbol_of, Placed, pilot}

-- "From message to bursts": 36 bytes a burst, bursts in order of s, symbols in order of m; each coded bit stands at its place and the pilot at symbols 12 to 23
pub record Bursts (l : ℕ) (coded frame : List ℕ) : Type 0 where
  pub sized : length frame ≡ 36 * sub_packets l
  pub bits : (j s m : ℕ) → Placed l j s m → get_or frame (36 * s + m) 0 ≡ get_or coded j 0
  pub pilots : (s p : ℕ) → s < sub_packets l → p < 12 → get_or frame (36 * s + 12 + p) 0 ≡ pilot s p

-- "From soft values to message": value p of a sub-packet stands for symbol p when p < 12, else p + 12; so symbol m has this value
abbrev pub value_of : ℕ → ℕ
value_of m = cond (ltb m 12) m (m - 12)

-- the value heard for coded bit j: that of its symbol, or zero where its sub-packet is lost
unfoldable pub heard : ℕ → List ℕ → List ℕ → ℕ → ℕ
heard l marks values j =
    cond (eqb (get_or marks (packet_of l j) 0) 1) (get_or values (24 * packet_of l j + value_of (symbol_of l j)) 0) 0

-- the values heard for all coded bits, in the coder's order
unfoldable pub received : ℕ → List ℕ → List ℕ → List ℕ
received l marks values = firsts (coded_bits l) (heard l marks values)
