-- `capture::writing::put_packets` meets its contract: one field more at each turn. Assumes nothing.
use native.Mathlib.Omega.{arith}
use Rattle.capture.proofs.Storing.{storing_start, storing_fits, storing_step}
use Rattle.capture.proofs.writing.put_packets.Goals as goal

pub loop-s-init : goal.loop-s-init
loop-s-init c = storing_start (record { sized = omega arith; room = c.requires })

pub put_field-next-requires : goal.put_field-next-requires
put_field-next-requires c = storing_fits c.loop-s.invariant (omega arith)

pub loop-s-preserved : goal.loop-s-preserved
loop-s-preserved c = storing_step c.loop-s.invariant (omega arith) c.put_field-next.ensures
