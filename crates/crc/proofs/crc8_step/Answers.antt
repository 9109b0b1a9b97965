-- `crc::crc8_step` meets its contract: the product lays the polynomial over where the step does (`crc8_step_overlay`).
-- Assumes nothing.
use borrow.Author.Rules.{rules}
use mathlib.Core.Path.{◌∙◌}
use Rattle.bits.specs.Bits.{is_one}
use Rattle.bits.proofs.Bits.{bool_byte-bit}
use Rattle.crc.proofs.Crc.{crc8_step_overlay}
use Rattle.crc.proofs.crc8_step.Goals as goal

pub returns : goal.returns
returns c =
    let met = is_one c.args.bit in
    rw c.from-wide.ensures (crc8_step_overlay c.args.register met (search rules) (c.from.ensures ∙ bool_byte-bit met))
