-- `whiten::apply_period` meets its contract: a bit more is whitened (`walk_step`), and after the last all are. Assumes
-- nothing.
use native.Mathlib.Omega.{arith}
use mathlib.Core.Bool.{xor}
use Rattle.whiten.specs.Whiten.{before, next}
use Rattle.whiten.proofs.Entries.{after}
use Rattle.whiten.proofs.Walk.{walk_step, walk_end}
use Rattle.whiten.proofs.apply_period.Goals as goal

pub loop-i-preserved : goal.loop-i-preserved
unfolding after before next xor
loop-i-preserved c = walk_step c.loop-i.invariant (omega arith) (omega arith) c.differ.ensures

pub returns : goal.returns
returns c = walk_end c.loop-i.invariant (omega arith)
