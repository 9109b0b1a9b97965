-- The loop of `payload::put_bytes`: the bits of the bytes before i are stored (`Putting`). Assumes nothing.
use Rattle.payload.proofs.Putting.{Putting}
use Rattle.payload.proofs.put_bytes.Given as goal

abbrev pub invariant-loop-i : goal.invariant-loop-i
invariant-loop-i l = Putting l.message l.initial.bits l.bits l.at l.i
