-- The uplink frame of a message, TS 103 357 Figure 6-12 and document 01, "From message to bursts": the payload is whitened, coded, shifted, interleaved and set into bursts.
-- To be believed: coded_payload, Frame. Assumes nothing.
use Rattle.std.specs.Prelude.{Bool, List, map, ℕ, length}
use Rattle.bits.specs.Bits.{bit}
use Rattle.whiten.specs.Whiten.{whitened}
use Rattle.coder.specs.Coder.{coded, uplink_words}
use Rattle.payload.specs.Payload.{payload}
use Rattle.interleave.specs.Bursts.{Bursts}

-- 6.4.4.3 and 6.4.4.5: the complete payload is whitened, and coded after that
unfoldable pub coded_payload : List ℕ → ℕ → List Bool
coded_payload message mode = coded uplink_words (whitened (payload message mode))

-- these are the bytes of the frame of a message and its mode: each byte 0 or 1, bursts in order, symbols in order
abbrev pub Frame : List ℕ → ℕ → List ℕ → Type 0
Frame message mode frame = Bursts (length message) (map bit (coded_payload message mode)) frame
