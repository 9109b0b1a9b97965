-- Where the coded bits of a sub-packet stand, pair by pair of symbols from the pilot outwards: at two places that move on by one step a pair.
-- Assumes nothing.
use Rattle.std.specs.Prelude.{ℕ, ◌+◌, ◌-◌, ◌*◌, ◌≤◌, ◌<◌}
use Rattle.interleave.specs.Interleave.{sub_packets, Placed, Length}

-- of sub-packet s the pairs from k to before e: symbol 11 - k carries coded bit low, symbol 24 + k carries coded bit high, and the next pair those a step further
pub record Walks (l s k e low high step : ℕ) : Type 0 where
  pub message : Length l
  pub packet : s < sub_packets l
  pub pairs : k ≤ e
  pub last : e ≤ 12
  pub short : step ≤ 1000
  pub lows : (i : ℕ) → k + i < e → Placed l (low + step * i) s (11 - (k + i))
  pub highs : (i : ℕ) → k + i < e → Placed l (high + step * i) s (24 + (k + i))

-- the functions ask: s is a sub-packet of the core
pub record CorePacket (l s : ℕ) : Type 0 where
  pub message : Length l
  pub packet : s < 24

-- s is a sub-packet of the extension
pub record ExtensionPacket (l s : ℕ) : Type 0 where
  pub message : Length l
  pub from : 24 ≤ s
  pub packet : s < sub_packets l
