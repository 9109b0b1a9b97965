-- `quantise::take_in` meets its contract: one number more at each turn. Assumes nothing.
use mathlib.Core.Path.{◌∙◌}
use native.Mathlib.Omega.{arith}
use Rattle.quantise.proofs.Filling.{ord_max_max, filling_start, filling_step}
use Rattle.quantise.proofs.take_in.Goals as goal

pub loop-i-init : goal.loop-i-init
loop-i-init c = filling_start c.requires

pub loop-i-preserved : goal.loop-i-preserved
loop-i-preserved c = filling_step c.loop-i.invariant (omega arith) c.pattern-b.ensures c.value.ensures (c.max-peak.ensures ∙ ord_max_max _ _)
