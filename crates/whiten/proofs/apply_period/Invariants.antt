-- `whiten::apply_period` meets its contract. The loop's invariant: the bytes before i are whitened (`Walk`). Assumes
-- nothing.
use Rattle.whiten.proofs.Walk.{Walk}
use Rattle.whiten.proofs.apply_period.Given as goal

abbrev pub invariant-loop-i : goal.invariant-loop-i
invariant-loop-i l = Walk l.initial.bits l.bits l.i
