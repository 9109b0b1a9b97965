-- `coder::encode_run` meets its contract. The loop's invariant: the outputs of the bits before i are written (`Coding`).
-- Assumes nothing.
use Rattle.coder.proofs.Runs.{Coding}
use Rattle.coder.proofs.encode_run.Given as goal

abbrev pub invariant-loop-i : goal.invariant-loop-i
invariant-loop-i l = Coding l.before l.bits l.initial.out l.out l.s l.i
