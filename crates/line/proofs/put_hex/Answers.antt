-- `line::put_hex` meets its contract: two digits more at each byte (`hexes_step`). Assumes nothing.
use Rattle.std.proofs.Common.{arith, ◌∙◌}
use Rattle.line.proofs.Appending.{hexes_start, hexes_room, hexes_step, hexes_end, hexes_length}
use Rattle.line.proofs.put_hex.Goals as goal

pub loop-x-init : goal.loop-x-init
loop-x-init c = hexes_start c.args.bytes.now c.args.line.now.items

pub push-requires : goal.push-requires
push-requires c = (omega arith, omega (arith, hexes_room c.args.bytes.now c.args.line.now.items c.loop-x.x-index c.loop-x-test.true c.loop-x.invariant c.requires))

pub push-requires-in-loop-x : goal.push-requires-in-loop-x
push-requires-in-loop-x c = (
  omega arith,
  omega (arith, c.push.ensures.len, hexes_room c.args.bytes.now c.args.line.now.items c.loop-x.x-index c.loop-x-test.true c.loop-x.invariant c.requires),
)

pub loop-x-preserved : goal.loop-x-preserved
loop-x-preserved c =
    c.push-in-loop-x.ensures.items
    ∙ rw (c.push.ensures.items, c.hex_digit.ensures, c.hex_digit-in-loop-x.ensures)
    (hexes_step c.args.bytes.now c.args.line.now.items c.loop-x.x-index c.loop-x-test.true c.loop-x.invariant)

pub returns-clause-items : goal.returns-clause-items
returns-clause-items c = hexes_end c.args.bytes.now c.args.line.now.items c.loop-x.x-index c.loop-x-test.false c.loop-x.invariant

pub returns-clause-len : goal.returns-clause-len
returns-clause-len c =
    hexes_length c.args.bytes.now c.args.line.now.items
    (hexes_end c.args.bytes.now c.args.line.now.items c.loop-x.x-index c.loop-x-test.false c.loop-x.invariant)
