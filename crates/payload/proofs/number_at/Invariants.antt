-- `payload::number_at`: x is the number of the bits before bit k (`Reading`).
-- Assumes nothing.
use Rattle.payload.proofs.Taking.{Reading}
use Rattle.payload.proofs.number_at.Given as goal

abbrev pub invariant-loop-bit : goal.invariant-loop-bit
invariant-loop-bit l = Reading l.bits l.at l.count l.x l.bit-index
