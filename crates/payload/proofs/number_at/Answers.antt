-- `payload::number_at` doubles the number and adds a bit at each turn (`Reading`). Assumes nothing.
use Rattle.std.proofs.Common.{arith}
use Rattle.payload.proofs.Taking.{reading_start, reading_below, reading_bit, reading_step}
use Rattle.payload.proofs.number_at.Goals as goal

pub loop-bit-init : goal.loop-bit-init
loop-bit-init c = reading_start c.args.bits.now c.args.at c.args.count

pub overflow_mul-x : goal.overflow_mul-x
overflow_mul-x c = omega (arith, reading_below c.loop-bit.invariant c.requires.part c.loop-bit-test.true c.requires.byte)

pub overflow_add-x : goal.overflow_add-x
overflow_add-x c =
    let inside = c.loop-bit-test.true in
    omega (
      arith,
      reading_below c.loop-bit.invariant c.requires.part inside c.requires.byte,
      reading_bit c.loop-bit.invariant c.requires.part inside,
    )

pub loop-bit-preserved : goal.loop-bit-preserved
loop-bit-preserved c = reading_step c.loop-bit.invariant c.requires.part c.loop-bit-test.true
