-- `payload::compose` meets its contract: the stores fill the buffer from the payload's end to its start (`composed`), and the two CRCs are taken over
-- what is there by then (`crc8_filled_24`, `crc8_filled_8`). Assumes nothing.
use mathlib.Core.Path.{◌∙◌}
use Rattle.payload.proofs.Filling.{crc8_filled_24, crc8_filled_8, composed}
use Rattle.payload.proofs.compose.Goals as goal

pub returns : goal.returns
returns c =
    let m = c.args.message.now in
    let mode = c.args.mode in
    let old = c.args.bits.now in
    let room = c.requires.room in
    let least = c.requires.least in
    let body = c.put_body.ensures in
    let inner = c.crc8_of-payload_crc.ensures ∙ crc8_filled_24 m mode old least room body in
    let next = c.put_bits.ensures in
    let outer = c.crc8_of-header_crc.ensures ∙ crc8_filled_8 m mode old least room body inner next in
    composed m mode old least room body inner next outer c.put_bits-2.ensures
