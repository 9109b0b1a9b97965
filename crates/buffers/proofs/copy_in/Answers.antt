-- `buffers::copy_in` meets its contract: the run that is stored grows by one byte a turn (`appends_more`). Assumes
-- nothing.
use native.Mathlib.Omega.{arith}
use Rattle.buffers.proofs.Appending.{appends_more}
use Rattle.buffers.proofs.copy_in.Goals as goal

pub loop-i-preserved : goal.loop-i-preserved
loop-i-preserved c = appends_more _ _ c.loop-i.invariant (omega arith)
