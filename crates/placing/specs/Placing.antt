-- The sizes that gathering needs, for a caller that has to test them, and what filling leaves in a frame.
-- To be believed: all of it. Assumes nothing.
use Rattle.std.specs.Prelude.{List, ◌≡◌, ℕ, ◌*◌, ◌≤◌, length, take, drop}
use Rattle.interleave.specs.Interleave.{coded_bits, sub_packets, Length}
use Rattle.interleave.specs.Bursts.{Bursts}

-- document 01, "From soft values to message": a mark and 24 values a sub-packet, and room for the coded bits
pub record GatherSizes (l : ℕ) (marks values out : List ℕ) : Type 0 where
  pub message : Length l
  pub marked : length marks ≡ sub_packets l
  pub valued : length values ≡ 24 * sub_packets l
  pub room : coded_bits l ≤ length out

-- the frame stands in the first 36 bytes a sub-packet, and the rest is as before
pub record Framed (l : ℕ) (coded old new : List ℕ) : Type 0 where
  pub sized : length new ≡ length old
  pub frame : Bursts l coded (take (36 * sub_packets l) new)
  pub rest : drop (36 * sub_packets l) new ≡ drop (36 * sub_packets l) old
