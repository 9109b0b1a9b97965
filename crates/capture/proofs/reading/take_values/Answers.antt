-- `capture::reading::take_values` meets its contract: the values of one field more. Assumes nothing.
use native.Mathlib.Omega.{arith}
use Rattle.capture.proofs.Storing.{taking_start, taking_step, taking_end}
use Rattle.capture.proofs.reading.take_values.Goals as goal

pub loop-s-init : goal.loop-s-init
loop-s-init c = taking_start (record { sized = omega arith; room = c.requires })

pub loop-s-preserved : goal.loop-s-preserved
loop-s-preserved c = taking_step c.loop-s.invariant (omega arith) c.copy_in.ensures

pub returns : goal.returns
returns c = taking_end c.loop-s.invariant (omega arith)
