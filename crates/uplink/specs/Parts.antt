-- What the inner functions of build and recover say to each other. Nothing here has to be believed.
-- Assumes nothing.
use Rattle.std.specs.Prelude.{false, cond, ◌&&◌, List, ◌++◌, map, ◌≡◌, ℕ, ◌+◌, ◌*◌, ◌≤◌, eqb, length, take, drop}
use Rattle.bits.specs.Bits.{bit}
use Rattle.interleave.specs.Interleave.{Length}
use Rattle.interleave.specs.declared.frames.Heard.{Heard}
use Rattle.payload.specs.Payload.{payload_bits}
use Rattle.uplink.specs.Frame.{Frame}
use Rattle.uplink.specs.Build.{length_wrong, frame_size}
use Rattle.uplink.specs.Recover.{silent, nearest_cost, opened}
use Rattle.uplink.specs.Demands.{Formed}

-- a message that can be built, and room for its frame
pub record Buildable (message : List ℕ) (mode : ℕ) (frame : List ℕ) : Type 0 where
  pub told : Length (length message)
  pub modes : mode ≤ 3
  pub room : frame_size (length message) ≤ length frame

-- its frame stands in the first bytes, and the rest is as before
pub record Put (message : List ℕ) (mode : ℕ) (before after : List ℕ) : Type 0 where
  pub sized : length after ≡ length before
  pub frame : Frame message mode (take (frame_size (length message)) after)
  pub rest : drop (frame_size (length message)) after ≡ drop (frame_size (length message)) before

-- the first of: 1 length; 2 marks or values not of the exact size. 0 where none holds
unfoldable pub sizes_refusal : ℕ → List ℕ → List ℕ → ℕ
sizes_refusal l marks values =
    cond (length_wrong l) 1 (cond (eqb (length marks) (l + 4) && eqb (length values) (24 * (l + 4))) 0 2)

-- what was heard is of this length, these marks and values
pub record HeardOf (l : ℕ) (marks values : List ℕ) (heard : Heard) : Type 0 where
  pub told : heard.l ≡ l
  pub marked : heard.marks.now ≡ marks
  pub valued : heard.values.now ≡ values

-- it is not refused for its form, and something was heard
pub record Passed (l : ℕ) (marks values : List ℕ) (room : ℕ) (heard : Heard) : Type 0 where
  pub of : HeardOf l marks values heard
  pub formed : Formed l marks values room
  pub something : silent marks values ≡ false

-- the bits behind the nearest string, and its cost
pub record Nearing (l : ℕ) (marks values before after : List ℕ) (total : ℕ) : Type 0 where
  pub bits : after ≡ map bit (opened l marks values) ++ drop (payload_bits l) before
  pub total_is : total ≡ nearest_cost l marks values
  pub most : total ≤ 795648
