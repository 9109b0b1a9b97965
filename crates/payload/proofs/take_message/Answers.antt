-- `payload::take_message` meets its contract: one byte more at each turn (`Taking`). Assumes nothing.
use native.Mathlib.Omega.{arith}
use Rattle.payload.proofs.Taking.{taking_start, taking_step}
use Rattle.payload.proofs.take_message.Goals as goal

pub loop-i-init : goal.loop-i-init
loop-i-init c = taking_start _ _ _ c.requires.room

pub loop-i-preserved : goal.loop-i-preserved
loop-i-preserved c = taking_step c.loop-i.invariant (omega arith) c.number_at.ensures
