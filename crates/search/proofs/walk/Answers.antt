-- `search::walk` meets its contract: before moment t the bits on the way are written. Assumes nothing.
use mathlib.Core.Path.{sym}
use native.Mathlib.Omega.{arith}
use Rattle.search.proofs.Follow.{walking_step, walking_end}
use Rattle.search.proofs.walk.Goals as goal

pub loop-t-preserved : goal.loop-t-preserved
loop-t-preserved c = rw c.from.ensures (walking_step c.loop-t.invariant (omega arith))

pub returns : goal.returns
returns c = rw c.loop-t.auto.bits at (walking_end (rw (sym c.loop-t.auto.bits) at c.loop-t.invariant) (omega arith))
