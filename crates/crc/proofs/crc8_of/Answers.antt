-- `crc::crc8_of` meets its contract: the register that goes from bit to bit is the CRC (`crc_from-fold`). Assumes
-- nothing.
use Rattle.std.proofs.Common.{rules}
use Rattle.std.proofs.iter.runs.Made.{chains}
use mathlib.Core.Path.{◌≡◌, sym, ◌∙◌}
use Rattle.std.specs.List.{fold}
use Rattle.bits.specs.Bits.{is_one}
use Rattle.crc.specs.Crc.{crc_step, crc8}
use Rattle.crc.proofs.Crc.{crc_from-fold}
use Rattle.crc.proofs.crc8_of.Goals as goal

pub returns : goal.returns
unfolding crc8
returns c =
    let bits = c.args.bits.now in
    let folded : c.fold.result ≡ fold (λ r b. crc_step 8 0x9B r (is_one b)) 0xFF bits = search (rules, chains) in
    folded ∙ sym (crc_from-fold 8 0x9B 0xFF bits)
