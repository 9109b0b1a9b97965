-- `bits::of` meets its contract: a bit more at each turn (`bits_step`). Assumes nothing.
use Rattle.std.proofs.Common.{arith, length-set, ◌∙◌}
use Rattle.bits.proofs.Storing.{bits_step, bits_end}
use Rattle.bits.proofs.of.Goals as goal

pub loop-k-preserved : goal.loop-k-preserved
loop-k-preserved g c =
    let l = c.loop-k in
    (length-set l.bit-items l.k _ ∙ l.invariant.0, bits_step g.row.N c.args.x l.k l.bit-items c.loop-k-test.true l.invariant.0 l.invariant.1)

pub returns : goal.returns
returns g c =
    let l = c.loop-k in
    bits_end g.row.N c.args.x l.k l.bit-items (omega arith) l.invariant.0 l.invariant.1
