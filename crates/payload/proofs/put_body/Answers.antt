-- `payload::put_body` meets its contract: the three runs of stores are one (`sets_then`). Assumes nothing.
use mathlib.Core.List.{◌++◌}
use mathlib.Core.Path.{refl}
use lib.ListN.{length}
use Rattle.bits.specs.Bits.{bits_of, bits_of_bytes}
use Rattle.bits.proofs.Bits.{length-bits_of, length-bits_of_bytes}
use Rattle.payload.proofs.Putting.{sets_then}
use Rattle.payload.proofs.put_body.Goals as goal

pub returns : goal.returns
returns c =
    let s = c.before.before.before.before.before.before.before.before.before.before.before.before.before.before in
    let m = s.args.message.now in
    let size = bits_of 8 (length m) in
    let bytes = bits_of_bytes m in
    let mode = bits_of 2 s.args.mode in
    sets_then s.args.bits.now 16 size (bytes ++ mode)
    c.put_bits.ensures
    (rw length-bits_of refl)
    (sets_then _ 24 bytes mode
    c.put_bytes.ensures
    (rw length-bits_of_bytes refl)
    c.put_bits-2.ensures)
