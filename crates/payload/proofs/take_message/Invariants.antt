-- The loop of `payload::take_message`: the bytes before i are written (`Taking`). Assumes nothing.
use Rattle.payload.proofs.Taking.{Taking}
use Rattle.payload.proofs.take_message.Given as goal

abbrev pub invariant-loop-i : goal.invariant-loop-i
invariant-loop-i l = Taking l.bits l.initial.message l.message l.l l.i
