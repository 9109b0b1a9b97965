-- `whiten::apply` meets its contract. The loop's invariant: the bytes before part k are whitened (`Walk`). Assumes
-- nothing.
use Prim.Native.Nat.{◌*◌}
use Rattle.whiten.proofs.Walk.{Walk}
use Rattle.whiten.proofs.apply.Given as goal

abbrev pub invariant-loop-k : goal.invariant-loop-k
invariant-loop-k l = Walk l.initial.bits l.bits (511 * l.k)
