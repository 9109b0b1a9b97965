-- `payload::put_bits` meets its contract: the bits take the place of a part (`part-sets`). Assumes nothing.
use Rattle.std.proofs.Common.{map, ◌∙◌}
use lib.ListN.{length-map}
use Rattle.bits.specs.Bits.{bit, bits_of}
use Rattle.bits.proofs.Bits.{length-bits_of}
use Rattle.payload.proofs.Putting.{part-sets}
use Rattle.payload.proofs.put_bits.Goals as goal

pub returns : goal.returns
returns g c =
    part-sets c.args.bits.now (map bit (bits_of g.row.N c.args.x)) c.args.at g.row.N
    (c.copy_from_slice.ensures.after ∙ c.of.ensures)
    (length-map (bits_of g.row.N c.args.x) bit ∙ length-bits_of g.row.N c.args.x)
    c.requires.room
